-- Steps 13 and 14, the old pages given back, keep the invariant: 13; 14.
pub mod Request
pub mod GiveBack
