-- What the proofs of this crate rest on.
pub mod Answered
pub mod Given
pub mod Over
pub mod Reach
pub mod Steps
