-- The invariant: who owns each page, who holds each lock, how far the file extends, the facts of each party; what another party relies on; formatted memory has it.
pub mod Ghost
pub mod Owners
pub mod Handing
pub mod Claims
pub mod LockMoves
pub mod Statement
pub mod Frame
pub mod Asks
pub mod Facts
pub mod Ahead
pub mod Turn
pub mod Extents
pub mod Advance
pub mod Restructurer
pub mod Start
