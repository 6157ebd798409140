-- The thirty steps (document 01, "The thirty steps"), in the groups that proofs/Steps and the step crates have too, and the step that a number names.
-- Dispatch has has_step (which operation has which steps), step_of, and wants (the lock that a party's next step requests).
pub mod Locate
pub mod Chase
pub mod Find
pub mod Rebuild
pub mod Write
pub mod OldPages
pub mod SplitLocks
pub mod SplitBuild
pub mod SplitWrite
pub mod MergeLocks
pub mod MergeBuild
pub mod MergeWrite
pub mod Table
pub mod Dispatch
