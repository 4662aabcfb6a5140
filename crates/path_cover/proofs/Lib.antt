-- What the proofs of this crate rest on.
pub mod Bounds
pub mod Keeping
pub mod LeafCounts
pub mod Nested
pub mod Once
pub mod Parents
pub mod Raised
pub mod Squares
pub mod Taking
pub mod Upward
