-- Only private contracts cite these: which nodes cover while one node after the other is visited.
pub mod Order
pub mod Walk
