pub mod Laws
pub mod Outcomes
pub mod Whole
pub mod Examples
