pub mod Counts
pub mod Given
pub mod Groups
pub mod Ranges
pub mod Rows
pub mod Seen
pub mod Sums
pub mod UnderNodes
