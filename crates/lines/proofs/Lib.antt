-- What the proofs of lines answered share; what turns prints for a schedule, after a take-up, and for long lines.
pub mod Words
pub mod Texts
pub mod Going
pub mod Schedules
pub mod TakenUp
pub mod LongLines
