-- What only the contracts of this crate need: nobody has to believe it.
pub mod Spelt
