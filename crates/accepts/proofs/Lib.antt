pub mod Leaves
pub mod Sound
pub mod Complete
pub mod Accepts
