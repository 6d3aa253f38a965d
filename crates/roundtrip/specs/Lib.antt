pub mod Told
pub mod RoundTrip
