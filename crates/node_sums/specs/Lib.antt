-- What the contracts cite: sums over the nodes under a node.
pub mod ByLeaves
pub mod Sums
