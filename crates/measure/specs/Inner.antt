-- What only the contracts and the proofs of this crate and of the writer need: nobody has to believe it.
pub mod Own
