-- What the proofs of this crate rest on.
pub mod BoxNumbers
pub mod ByNumbers
pub mod Chain
pub mod FewEntries
pub mod FieldLines
pub mod FieldNumbers
pub mod FieldRanges
pub mod LoopTexts
pub mod OfPoints
pub mod RowLines
pub mod SectionLines
pub mod Texts
pub mod Whole
pub mod Written
