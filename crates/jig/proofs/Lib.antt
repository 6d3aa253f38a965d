pub mod Told
pub mod Outcomes
pub mod Parts
pub mod Examples
