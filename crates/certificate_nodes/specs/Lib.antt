-- What the contracts cite: what stands at the nodes of a certificate, and which of its rules hold everywhere.
pub mod AtNodes
pub mod Gathered
pub mod Inside
pub mod Keys
pub mod PointRows
pub mod Presented
pub mod UnderNodes
