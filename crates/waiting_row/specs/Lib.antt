-- What the functions of this crate are stated with: a request as code has it; an entry of the row looked at, and the
-- place of a party; the row's words; a step held back.
pub mod Requested
pub mod Entry
pub mod HeldBack
