-- What the demands say of whole lists of calls, in the order in which they build on one another; Demands, Linearization and Withdrawals are the statements to read.
pub mod Links
pub mod PlainMap
pub mod NoPage
pub mod Sequential
pub mod Singly
pub mod Reads
pub mod FittingMerges
pub mod Demands
pub mod Overtaking
pub mod CallsBounded
pub mod Linearization
pub mod Settings
pub mod Withdrawals
pub mod TakenUp
pub mod Made
