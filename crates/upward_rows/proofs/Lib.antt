-- Lemmas on the rows of a tree.
pub mod Behind
pub mod Children
pub mod Counts
pub mod FieldRows
pub mod Points
pub mod Totals
pub mod Trees
