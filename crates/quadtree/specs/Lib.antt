-- What the contracts cite: the cells of the tree, their members, why a list has no tree, and a tree as callers see it.
pub mod Families
pub mod Divided
pub mod Faults
pub mod Fields
pub mod Members
pub mod Nodes
pub mod Splitting
pub mod Tree
pub mod TreeModel
