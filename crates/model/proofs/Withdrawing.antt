-- What a withdraw undoes: the operation taken back after a step is the operation taken back before it.
pub mod Locks
pub mod Undone
pub mod Locating
pub mod Rebuilding
pub mod Memory
