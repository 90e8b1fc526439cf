pub mod Counts
pub mod FormLemmas
pub mod Joining
