pub mod Row
pub mod Layout
