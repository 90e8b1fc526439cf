pub mod IntegerLemmas
pub mod ListedLemmas
