-- What the proof rests on.
pub mod Carried
pub mod Counts
pub mod FieldLeaves
pub mod Whole
