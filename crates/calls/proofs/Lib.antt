-- Laws for the proofs of this crate. Assumes nothing.
pub mod Pointwise
