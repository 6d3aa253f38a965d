pub mod Numbers
pub mod Refusal
pub mod Caps
pub mod Bits
pub mod Allowed
