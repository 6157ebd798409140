-- Steps 18, 20 and 21, what a split writes, keep the invariant: 18; 20 and 21.
pub mod OldChain
pub mod Root
