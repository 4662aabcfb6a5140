-- What the proofs of this crate rest on.
pub mod Counts
pub mod EntryPlaces
pub mod FieldRows
pub mod FieldSizes
pub mod FilledRows
pub mod Lists
pub mod Losses
pub mod MadePlaces
pub mod PlacesSoFar
pub mod SameRows
pub mod Totals
pub mod Translations
pub mod Trees
pub mod VEntries
pub mod WholeLosses
pub mod XEntries
