-- What the contracts cite: the rules of each kind of line, at which line they fail first, and what they imply.
pub mod Laws
pub mod LineRules
pub mod Verdicts
