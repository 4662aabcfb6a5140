-- Lemmas.
pub mod Orders
