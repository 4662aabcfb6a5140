-- That a full board holds the field of a solve.
pub mod Laws
