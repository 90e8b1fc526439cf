pub mod BuiltLemmas
pub mod GoodLemmas
