-- What the proof rests on.
pub mod Decided
pub mod GivenPoints
pub mod Lines
pub mod Numbers
pub mod Presented
pub mod Ranges
pub mod Some
pub mod Worked
