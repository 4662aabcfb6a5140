-- What contracts rest on: the steps of the method, one for each of what a cell has;
-- an accounting of sources, targets, rows and entries, what the method computes of it, the rules
-- between them and what they imply; and the counts of a certificate.
pub mod Accounts
pub mod Computed
pub mod Counts
pub mod Rules
pub mod Soundness
pub mod Squares
pub mod Steps
