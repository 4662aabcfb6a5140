-- What the contracts cite: how often sources are covered by the nodes above their leaves, and what is kept of it.
pub mod Covers
pub mod Kept
