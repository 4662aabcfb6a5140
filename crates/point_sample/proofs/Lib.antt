-- Lemmas, and worked examples.
pub mod Draws
mod Examples
pub mod Points
pub mod Within
