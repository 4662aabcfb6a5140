mod FarDistances
mod PowersOfTwo
mod Chosen
pub mod Contained
pub mod Entries
pub mod Widths
pub mod Sizes
mod Norms
mod Places
mod OrderSizes
mod Lookups
mod Pushed
mod Signs
