-- Requests as code has them; an entry looked at; the row's words; the row looked through; a step held back.
pub mod Requests
pub mod Looks
pub mod Words
pub mod Rows
pub mod HeldBack
