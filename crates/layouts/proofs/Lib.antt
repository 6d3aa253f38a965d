pub mod Stands
pub mod Shapes
pub mod Nodes
pub mod Proper
pub mod Values
