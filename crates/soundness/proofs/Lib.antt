-- What the proofs of this crate rest on.
pub mod Boxes
pub mod Choices
pub mod Counts
pub mod Entries
pub mod Example
pub mod FarExample
pub mod Fields
pub mod Inside
pub mod Losses
pub mod Multipoles
pub mod Nodes
pub mod Paths
pub mod Places
pub mod RowTotals
pub mod Sums
pub mod Targets
pub mod Terms
