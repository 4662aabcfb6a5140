pub mod FieldTexts
pub mod Pieces
mod Worked
