-- Laws that the proofs of this crate share.
pub mod PageKeys
pub mod Ascents
pub mod ScannedChain
