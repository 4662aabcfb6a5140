-- What the contracts cite: the parts of a field, the field of a list of points, what its rows contain, and that a full board holds the same.
pub mod Contents
pub mod Field
pub mod Inside
pub mod Parts
