-- The constant table.
pub mod Constant
