-- What the contracts rest on: a round of Horner's scheme on a row.
pub mod Rounds
