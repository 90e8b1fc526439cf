pub mod BelowLemmas
pub mod DirectLemmas
pub mod FormedLemmas
pub mod IndexLemmas
pub mod MissedLemmas
pub mod OccurrenceLemmas
