-- An operation run from begin to done alone: the yardstick's files, the file at rest, one party alone, and the
-- paragraphs of the thirty steps in turn.
pub mod StepWords
pub mod Tied
pub mod Files
pub mod AtRest
pub mod Maps
pub mod Whole
pub mod Given
pub mod Alone
pub mod Locate
pub mod Find
pub mod Leave
pub mod Split
pub mod Merge
pub mod Change
pub mod Run
