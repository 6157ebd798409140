-- Laws that the proofs of this crate share, and those of the crates above.
pub mod Calling
pub mod TakingUp
pub mod Waiting
