-- What only the contracts and the proofs of this crate need, or what computes and is proved to agree with a believed definition: nobody has
-- to believe it.
pub mod Be
