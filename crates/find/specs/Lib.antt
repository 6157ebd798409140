-- What the functions of this crate ask of the page memory.
pub mod Links
