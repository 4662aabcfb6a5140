-- Lemmas on lists of cells, on the pairs, values and losses of cells, on what is read from a basis, and on the boxes of all targets.
pub mod FarCells
pub mod FieldBox
pub mod Losses
pub mod Numbers
pub mod PairBounds
pub mod PairSums
pub mod Pairs
pub mod PassBoxes
pub mod Read
pub mod SameValues
pub mod Sums
