-- What the functions of this crate are stated with.
pub mod TakingBack
