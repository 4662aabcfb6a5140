-- What the contracts cite: the generator and the points that its draws make.
pub mod Generator
pub mod Sample
