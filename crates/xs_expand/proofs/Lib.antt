pub mod SlideLemmas
pub mod OrderLemmas
