-- Laws that the proofs of this crate share.
pub mod Following
pub mod Copying
pub mod WholeChain
