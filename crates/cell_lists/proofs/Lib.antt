-- The theorem of the lists and what its proof needs.
pub mod CellNumbers
pub mod Descent
pub mod OneEntry
pub mod OneListed
pub mod PairTests
pub mod Picks
pub mod FlatLists
pub mod TreeNumbers
pub mod VLists
pub mod WalkSteps
