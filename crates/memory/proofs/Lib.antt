-- Laws that the proofs of this crate and of those above it share.
pub mod Accepted
pub mod Listing
pub mod FormattedParts
