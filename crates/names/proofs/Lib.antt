pub mod Maps
pub mod Going
pub mod Outcomes
pub mod Accepted
pub mod Local
pub mod Examples
