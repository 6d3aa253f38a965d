pub mod Unicode
pub mod Good
pub mod Inner
