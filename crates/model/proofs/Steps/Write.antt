-- Steps 11 and 12, the changed chain written and given up, keep the invariant: 11; 12.
pub mod PrimaryPage
pub mod GiveUp
