-- Laws that the proofs of this crate and of those above it share.
pub mod Places
pub mod Choices
pub mod Takings
pub mod Looking
