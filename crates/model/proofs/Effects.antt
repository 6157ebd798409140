-- Steps grouped by what they write: the own record and lock words, the scratch page, a primary page, pages taken or given back; requests, give-ups and endings.
pub mod Kept
pub mod OwnRecord
pub mod Touch
pub mod ScratchPage
pub mod PrimaryPage
pub mod Operations
pub mod Moves
pub mod Requests
pub mod Releases
pub mod Locating
pub mod GiveUps
pub mod Done
pub mod RootGrants
pub mod GivingBack
pub mod Taking
pub mod BuiltChain
