-- What a step follows is what it reads: readings and writings on two page memories that agree on some pages, each step on both, the call (Followed).
-- And the rest of its trace is true: how the pages of a walk are known, each step, the call (TrueTraces). Withdraws has both of a withdraw.
pub mod Readings
pub mod Writings
pub mod Outcomes
pub mod EachStep
pub mod Waiting
pub mod Followed
pub mod Known
pub mod StepTraces
pub mod TrueTraces
pub mod Withdraws
