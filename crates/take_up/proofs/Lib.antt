-- Laws that the proofs of this crate share.
pub mod Words
pub mod Records
pub mod Filled
pub mod Chain
pub mod Counting
pub mod Once
pub mod Saved
