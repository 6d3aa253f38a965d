pub mod Reading
pub mod Terms
pub mod Told
pub mod Answer
pub mod Asked
