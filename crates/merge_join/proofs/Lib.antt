-- Laws that the proofs of this crate share.
pub mod Comparing
pub mod Seeking
pub mod Taking
