-- What the proofs of this crate rest on.
pub mod Children
pub mod Empty
pub mod FewCounts
pub mod Fills
pub mod FullBoard
pub mod FullWork
pub mod Missing
pub mod Needed
pub mod Needs
pub mod Values
