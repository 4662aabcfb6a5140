-- What the contracts cite: what the entries of a cell add to its local row and what they can lose, and how many translations all rows take.
pub mod Entries
pub mod Radii
pub mod Translations
