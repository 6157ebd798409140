-- Laws that the proofs above this crate share.
pub mod Told
pub mod Meanings
