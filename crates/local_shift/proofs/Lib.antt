pub mod RoundSteps
pub mod Sums
