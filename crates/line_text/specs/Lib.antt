-- What the contracts cite.
pub mod Decimals
