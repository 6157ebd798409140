-- What take-up accepts: exactly the memory that the invariant describes with everybody idle.
pub mod Tests
pub mod Owners
pub mod Sound
pub mod Complete
