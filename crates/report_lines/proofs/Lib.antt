-- Lemmas.
pub mod Bounds
mod Lines
mod Reduced
