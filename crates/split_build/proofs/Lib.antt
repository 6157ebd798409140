-- Laws that the proofs of this crate share.
pub mod Halving
pub mod HalvesWritten
pub mod Divided
