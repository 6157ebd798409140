-- What the answers of this crate's functions mean.
pub mod Chased
