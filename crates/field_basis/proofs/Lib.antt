-- Lemmas on the weights of cells, on the positions of targets and on the tree of some points.
pub mod CellWeights
pub mod PlaceSums
pub mod Positions
pub mod Sizes
pub mod Trees
