-- Laws that the proofs of this crate and of those above it share.
pub mod Giving
pub mod Linked
pub mod Marks
pub mod Taking
pub mod TakingBack
