-- What the contracts cite: lines of certificates, their forms and ranges, the text, and its faults; and how a certificate is kept.
pub mod Certificate
pub mod Faults
pub mod Inside
pub mod Kept
pub mod Lines
pub mod Private
pub mod Reading
pub mod Rows
pub mod Sections
pub mod Storage
