-- Laws that the proofs of this crate share.
pub mod Recorded
pub mod Given
pub mod Turns
