-- What contracts rest on: places, cut terms, tails, the truncation bound of a source and of an entry.
pub mod CutTerms
pub mod Entries
pub mod Places
pub mod Tails
pub mod Truncation
