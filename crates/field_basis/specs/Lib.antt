-- What the contracts cite: a tree of points within the limits of its grid, the weights of its cells, the positions of the targets,
-- a basis of all of these, and what the places of a field hold.
pub mod Basis
pub mod Counts
pub mod FieldPlaces
pub mod Inside
pub mod InsidePlace
pub mod InsideTarget
pub mod Lent
pub mod MadePlaces
pub mod Place
pub mod Target
pub mod Targets
pub mod Trees
pub mod Weights
