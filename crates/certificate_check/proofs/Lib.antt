-- What the proofs of this crate rest on.
mod FirstFailures
mod Firsts
mod SmallCounts
mod Sound
