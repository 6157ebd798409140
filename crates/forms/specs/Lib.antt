-- The forms and the replies of turns by their patterns, and how they are read.
pub mod Forms
pub mod Replies
pub mod Reading
pub mod Printing
