-- What the contracts cite: the limits of each version of the text.
pub mod Grid
pub mod Laws
pub mod Limits
