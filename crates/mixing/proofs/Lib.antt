-- Proofs of mixed keys.
pub mod Made
