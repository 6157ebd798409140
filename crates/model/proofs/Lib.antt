-- From below: laws of the definitions; the invariant; steps grouped by what they write; a lemma for each step; how
-- each step can end, on any view; what a withdraw undoes; every call keeps the invariant; take-up. Beside them what
-- the definitions call wrong.
pub mod Laws
pub mod Invariant
pub mod Effects
pub mod Steps
pub mod Exits
pub mod Withdrawing
pub mod Theorems
pub mod TakingUp
pub mod Refutations
