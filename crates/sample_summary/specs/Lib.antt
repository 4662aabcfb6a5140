-- What the contracts cite: the summary of a sample.
pub mod Summary
