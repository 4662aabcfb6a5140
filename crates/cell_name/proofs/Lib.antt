-- Lemmas on cells.
pub mod Ancestors
pub mod Axis
pub mod Cells
pub mod HoldsTest
pub mod Levels
pub mod Comparisons
pub mod Distances
mod Held
pub mod Order
pub mod Quarters
