pub mod Laws
pub mod Outcomes
pub mod Runs
pub mod Parts
pub mod Nan
pub mod Examples
