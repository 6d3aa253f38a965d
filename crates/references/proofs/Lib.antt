pub mod Reading
pub mod Every
pub mod Halves
pub mod Segments
pub mod OneSegment
pub mod Local
pub mod Outcomes
pub mod Examples
