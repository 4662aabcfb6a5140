-- What the contracts cite: which levels are finished, and which runs can be filled.
pub mod DownRuns
pub mod Levels
pub mod UpRuns
