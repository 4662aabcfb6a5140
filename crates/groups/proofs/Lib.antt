-- What the proofs of this crate rest on.
pub mod Chained
pub mod Grown
pub mod Members
