pub mod Cells
pub mod Spans
pub mod Read
pub mod Inner
