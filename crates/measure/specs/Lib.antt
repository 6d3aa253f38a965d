pub mod Item
pub mod Term
pub mod Inner
