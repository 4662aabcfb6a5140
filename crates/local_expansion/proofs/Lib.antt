pub mod ConvertCalls
pub mod FarSources
pub mod FarSteps
pub mod NarrowEnds
pub mod ProductSums
pub mod RowCalls
pub mod ValueSteps
