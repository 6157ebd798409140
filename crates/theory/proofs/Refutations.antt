-- Wrong events, memories and lists of calls that the definitions of specs/ call wrong, each beside the right one that
-- differs from it in one place and is called right; and that what stands as a premise is met.
pub mod Opened
pub mod Links
pub mod Traces
pub mod Merges
pub mod Events
pub mod Calls
pub mod Singly
pub mod Runs
pub mod TwoCalls
pub mod Reads
pub mod Yardstick
pub mod Orders
pub mod Overtaking
pub mod Demands
