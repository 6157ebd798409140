-- THE INDEX is right (TheIndex), what its callers have of it (ForCallers), and laws that the proofs of the functions
-- share.
pub mod TheIndex
pub mod Stored
pub mod ForCallers
