pub mod Asking
pub mod Passing
pub mod Noting
pub mod Known
pub mod Outcomes
pub mod Examples
