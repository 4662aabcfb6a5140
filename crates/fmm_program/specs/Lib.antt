-- What the contracts cite: forms of the command line, answers, and how runs end.
pub mod Answers
pub mod CheckAnswers
pub mod CheckRuns
pub mod Endings
pub mod Forms
pub mod Runs
pub mod SampleAnswers
pub mod Samples
pub mod Workers
