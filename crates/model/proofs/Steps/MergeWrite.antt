-- Steps 27 to 29, what a merge writes, keep the invariant: 27; 28; 29.
pub mod Root
pub mod Target
pub mod Partner
