-- What the answers of this crate's walks mean, and the pages that links lead to.
pub mod Links
pub mod Walks
