pub mod Head
pub mod Inner
