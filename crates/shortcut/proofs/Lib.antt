pub mod Shorts
pub mod Others
