-- From the thirty steps to calls: each call keeps the invariant and feeds the book; refusals in their order; the worked cases; what single definitions mean.
pub mod Cases
pub mod Mixing
pub mod Pairs
pub mod RefusalOrder
pub mod Gate
pub mod GrantTable
pub mod Answering
pub mod Calls
pub mod AllSteps
pub mod Meanings
pub mod Merges
pub mod Records
pub mod BookAscends
