pub mod Division
pub mod Ends
pub mod Order
pub mod Rests
pub mod Sizes
