-- Laws that the proofs of this crate share, and the theorems on forms and replies.
pub mod Rows
pub mod Puts
pub mod Words
pub mod Table
pub mod StepLine
pub mod FormTheorems
pub mod ReplyTheorems
