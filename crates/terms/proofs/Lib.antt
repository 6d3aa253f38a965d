pub mod Laws
pub mod Children
pub mod Shorts
pub mod Positions
