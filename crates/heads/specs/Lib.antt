pub mod Head
pub mod Width
