pub mod Twos
pub mod Places
