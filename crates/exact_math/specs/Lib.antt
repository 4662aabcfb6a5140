-- What contracts rest on: fractions, containment, rounding, sizes, Gaussian integers, the truncated kernel.
pub mod Binomials
pub mod Contains
pub mod Ends
pub mod Gaussian
pub mod Orders
pub mod Ratio
pub mod Rounding
pub mod Sizes
pub mod Sums
pub mod Terms
pub mod TruncatedKernel
pub mod Units
pub mod Within
