pub mod RowCalls
pub mod SourcePowers
pub mod ValueSteps
