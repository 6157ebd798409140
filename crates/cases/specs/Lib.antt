-- What the program says of a case.
pub mod Verdict
