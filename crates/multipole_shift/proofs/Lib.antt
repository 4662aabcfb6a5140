pub mod RowShifts
pub mod UpSteps
