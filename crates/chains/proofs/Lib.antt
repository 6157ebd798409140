-- Laws that the proofs of this crate and of those above it share.
pub mod Walking
pub mod Links
pub mod Answered
