-- What the contracts cite: the parts of a board, its names and what they need, and what its places hold.
pub mod Board
pub mod Inside
pub mod Laws
pub mod Names
pub mod Parts
pub mod Search
