-- What is said of the index as a caller has it.
pub mod TheIndex
