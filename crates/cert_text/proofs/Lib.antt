-- What the proofs of this crate rest on.
pub mod BoxRows
pub mod Cuts
pub mod Due
pub mod Ends
pub mod Forms
pub mod Grown
pub mod Heads
pub mod KeptLines
pub mod Places
pub mod RowLines
pub mod Steps
pub mod StoredRows
pub mod Unique
pub mod Readings
