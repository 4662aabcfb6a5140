-- What the contracts cite: what a check answers, and where lines fail first.
pub mod Answers
pub mod Failures
