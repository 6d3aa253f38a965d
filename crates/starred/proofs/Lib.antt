pub mod Starred
pub mod Determined
pub mod Numbered
