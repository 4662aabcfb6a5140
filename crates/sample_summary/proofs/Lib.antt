-- What the proofs of this crate rest on.
mod Counting
mod Greatest
mod Grid
mod Lines
mod Worked
