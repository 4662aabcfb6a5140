-- What the contracts cite: terms of sources, the pair box and the direct sum.
pub mod DirectSum
pub mod Pair
pub mod Private
