-- What the functions of the crates above are stated with.
pub mod Work
