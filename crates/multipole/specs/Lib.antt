-- What the contracts rest on: the powers of a place.
pub mod Powers
