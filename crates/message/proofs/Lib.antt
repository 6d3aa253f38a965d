pub mod Laws
pub mod Sure
pub mod Fronts
pub mod Accepts
pub mod Examples
