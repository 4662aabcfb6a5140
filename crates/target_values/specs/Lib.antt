-- What the private clauses cite: what the cells of a leaf's lists bring to a place.
pub mod Values
