pub mod Laws
pub mod Texts
pub mod Ends
pub mod Outcomes
pub mod Examples
