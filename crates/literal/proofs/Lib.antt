-- What the proofs of several functions use, and what is shown of the definitions alone. In a function's Proof.antt the answers that cite a law have
-- names; what arithmetic closes stands in its place in the last lines.
mod Pieces
pub mod Trims
pub mod Meaning
pub mod Once
pub mod Examples
