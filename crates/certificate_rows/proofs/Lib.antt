-- What the proofs of this crate rest on.
pub mod Entries
pub mod LocalRules
pub mod MultipoleRules
pub mod Orders
pub mod Quadrants
pub mod SameRows
pub mod Standing
pub mod Totals
pub mod XEntries
