pub mod Form
pub mod Positions
pub mod Inner
