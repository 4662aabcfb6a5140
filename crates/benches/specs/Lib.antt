-- The cell of the samples.
pub mod Middle
