pub mod Tree
pub mod Layout
pub mod Nodes
pub mod Values
pub mod Inner
