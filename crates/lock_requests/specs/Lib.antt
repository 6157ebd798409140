-- The locks that the functions of this crate are given, and what they ask of the memory.
pub mod Locks
