-- What contracts rest on: the rounded recursions on rows, the exact moments and fields that rows stand for,
-- the laws between them, and the words for points and cells.
pub mod Cells
pub mod Contents
pub mod Fields
pub mod Geometry
pub mod Laws
pub mod Moments
pub mod Rows
pub mod Sizes
pub mod Widths
pub mod Sources
