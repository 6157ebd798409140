-- What a turn of the program turns says.
pub mod Turned
