-- What the contracts cite: the rows behind a cell, and which cells have theirs shifted up.
pub mod Behind
pub mod Shifted
