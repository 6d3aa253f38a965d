pub mod Says
pub mod Items
pub mod Rows
pub mod Cells
pub mod Counts
pub mod RoundTrip
pub mod Examples
