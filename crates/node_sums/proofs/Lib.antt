-- What the proofs of this crate rest on.
pub mod ByLeaves
pub mod Children
pub mod Pushed
pub mod RangeSums
