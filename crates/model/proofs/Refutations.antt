-- Wrong answers, events and memories that the definitions of a demand call wrong, each beside the right one that differs
-- from it in one place and is called right: so that no definition which only allows can be widened, nor one that stands
-- as a premise be emptied, while the theorems over it still stand.
pub mod Opened
pub mod Answers
pub mod Lists
pub mod Books
pub mod Memories
pub mod Causes
pub mod Steps
pub mod Files
pub mod Effects
pub mod WaitingRow
