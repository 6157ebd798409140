-- What the functions of this crate ask of the root record.
pub mod Fits
