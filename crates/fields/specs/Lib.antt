pub mod Be
pub mod Field
pub mod Inner
