-- What contracts cite: the lists of a tree, the field of the method over them, its accounting,
-- that this meets the rules and so the boxes contain the direct sum, and the counts of
-- translations and pairs.
pub mod Accounting
pub mod Contains
pub mod CutFields
pub mod Field
pub mod Laws
pub mod Lists
pub mod Paths
pub mod Program
pub mod RowContents
pub mod Sizes
pub mod Work
