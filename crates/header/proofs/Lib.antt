pub mod Leaving
pub mod Maps
pub mod Outcomes
pub mod Accepted
pub mod Local
pub mod Examples
