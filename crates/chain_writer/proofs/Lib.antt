-- Laws that the proofs of this crate and of those above it share.
pub mod MadePages
pub mod PagesApart
pub mod Chains
pub mod Drawing
