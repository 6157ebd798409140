-- Laws that the proofs of this crate share.
pub mod PageWords
pub mod Fills
