-- What the functions of this crate ask of the memory.
pub mod Scratch
