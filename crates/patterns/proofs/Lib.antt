-- Laws that the proofs of this crate share, and the theorems on patterns.
pub mod Tests
pub mod Scanning
pub mod Spelling
pub mod Matching
pub mod Filling
pub mod Literals
pub mod Numerals
pub mod Theorems
