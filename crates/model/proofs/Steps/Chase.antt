-- Steps 6 to 8, the chase, keep the invariant: 6; 7 and 8.
pub mod Copy
pub mod Follow
