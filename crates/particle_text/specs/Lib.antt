-- What the contracts cite: the text of a list of particles, and its faults.
pub mod Faults
pub mod Private
pub mod Text
