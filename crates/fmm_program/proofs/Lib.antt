pub mod Certified
pub mod Complete
mod CheckComplete
mod CheckRuns
mod FlushedEnds
mod FrontWords
pub mod EntryLines
mod SampleRuns
pub mod SolveRuns
mod UsageRuns
mod WordForms
