-- What the proof rests on.
pub mod Leaves
pub mod RowNumbers
pub mod Same
