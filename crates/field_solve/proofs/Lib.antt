-- The field that finished places make, what its rows contain, how large they are, how wide its boxes print, and that a full board holds the same.
pub mod Contents
pub mod FieldOf
pub mod MadeField
pub mod NoWider
pub mod Sizes
