-- The causes of refusal by the lent lengths.
pub mod Causes
