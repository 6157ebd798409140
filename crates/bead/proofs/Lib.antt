-- A C caller has THE INDEX (TheCalls), and laws that the proofs of this crate share.
pub mod Numbers
pub mod TheCalls
pub mod Begun
