pub mod Laws
pub mod Joined
pub mod Std
pub mod Inverse
pub mod Digits
pub mod Signs
pub mod Wide
