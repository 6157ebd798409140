-- Laws that the proofs of this crate share.
pub mod Scanning
pub mod Moving
pub mod Places
