-- What the functions of this crate and of those above it are stated with.
pub mod Marks
