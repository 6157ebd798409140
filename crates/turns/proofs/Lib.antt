-- What a turn leaves, and turns one after the other.
pub mod Parts
pub mod Turning
