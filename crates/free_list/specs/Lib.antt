-- What the functions of this crate are stated with.
pub mod Giving
pub mod Marks
pub mod Taking
