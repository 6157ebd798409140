-- A lemma for each step: under the invariant it is not refused, agrees with the book, and the invariant holds after it.
-- In the groups of specs/Steps: 1 to 5; 6 to 8; 9; 10; 11, 12; 13, 14; 15, 16, 19, 22; 17; 18, 20, 21; 23, 24, 25, 30; 26; 27 to 29. Withdraw has one too.
pub mod Locate
pub mod Chase
pub mod Find
pub mod Rebuild
pub mod Write
pub mod OldPages
pub mod SplitLocks
pub mod SplitBuild
pub mod SplitWrite
pub mod MergeLocks
pub mod MergeBuild
pub mod MergeWrite
pub mod Withdraw
