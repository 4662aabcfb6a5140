-- What the contracts rest on: the powers of a far source.
pub mod FarPowers
