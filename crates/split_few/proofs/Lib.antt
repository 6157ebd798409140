-- Laws that the proofs of this crate and of those above it share.
pub mod Cases
pub mod Parting
pub mod Bounds
pub mod Halves
