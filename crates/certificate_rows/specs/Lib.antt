-- What the contracts cite: what a certificate gives each node, what its entries add, and what the method computes.
pub mod Computed
pub mod Entries
pub mod Given
