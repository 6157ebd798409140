-- What the functions of this crate ask of the sizes and the lent lengths.
pub mod Lent
