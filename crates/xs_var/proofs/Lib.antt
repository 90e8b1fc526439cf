pub mod LikeLemmas
pub mod MergedLemmas
pub mod NameLemmas
pub mod UnitLemmas
