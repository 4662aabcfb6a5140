-- Lemmas.
pub mod Grids
