-- What the contracts cite: particles, what they add to the sum, and the limits of lists.
pub mod Limits
pub mod Points
pub mod Strength
