-- What the lines of turns are answered with.
pub mod Held
pub mod Lines
pub mod Texts
pub mod Schedules
