pub mod Wrote
pub mod Copies
pub mod Room
pub mod Going
pub mod Writes
pub mod Examples
