-- What the contracts cite: the levels of nodes, and what is known of what is presented.
pub mod Known
pub mod Levels
