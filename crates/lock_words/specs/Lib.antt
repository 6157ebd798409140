-- What a request makes of the lent lock words; the strongest lock held as the code has it.
pub mod Words
pub mod HeldLock
