pub mod PairContains
pub mod TermSizes
pub mod PairSizes
pub mod PairCall
