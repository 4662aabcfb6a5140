-- Lemmas on the entries and the sources of a leaf, and on what they bring to a place.
pub mod Entries
pub mod Leaves
pub mod Parts
pub mod SameValues
pub mod Scaled
pub mod Sources
pub mod Sums
pub mod Targets
