-- What the proofs of this crate rest on.
pub mod BoxParts
pub mod BoxWidths
pub mod EntryWidths
pub mod FractionSizes
pub mod Inequalities
pub mod LocalWidths
pub mod Losses
pub mod MomentBounds
pub mod MultipoleBounds
pub mod MultipoleWidths
pub mod NarrowTotals
pub mod PathSums
pub mod PrintedWidths
pub mod Printing
pub mod SourceSums
pub mod Worked
