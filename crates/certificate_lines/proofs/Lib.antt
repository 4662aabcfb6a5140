-- What the proofs of this crate rest on.
pub mod Apart
pub mod Leaves
pub mod Levels
pub mod Lines
