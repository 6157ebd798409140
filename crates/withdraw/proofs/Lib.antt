-- Laws that the proofs of this crate share.
pub mod Locks
pub mod Outcomes
