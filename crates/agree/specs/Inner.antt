-- What only the proofs of this crate need, and what is proved to agree with a believed definition: nobody has to believe it.
pub mod Refusals
pub mod Fields
