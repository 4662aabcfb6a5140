-- Lemmas of the phases.
pub mod DownLevels
pub mod UpLevels
