-- What the functions of this crate are stated with (Numbers), and what a C caller has of them (TheCalls: read it
-- first).
pub mod Numbers
pub mod TheCalls
