pub mod Trim
pub mod Literal
pub mod Inner
