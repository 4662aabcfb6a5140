-- What the private clauses cite: what the entries of a leaf bring to a place.
pub mod Parts
