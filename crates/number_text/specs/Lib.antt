-- What the contracts cite: whole numbers as text, and texts cut into parts.
pub mod Numbers
pub mod Parts
pub mod Private
