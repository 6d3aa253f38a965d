pub mod Compare
pub mod Keys
pub mod Passing
pub mod Entries
pub mod Says
pub mod Looking
pub mod Meaning
pub mod Examples
