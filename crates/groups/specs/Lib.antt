-- What the contracts cite: indices grouped by their keys.
pub mod Chains
pub mod Flat
pub mod GroupsByKey
pub mod Members
