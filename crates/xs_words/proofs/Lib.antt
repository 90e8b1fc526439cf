pub mod ArgLemmas
pub mod CellLemmas
pub mod CompactLemmas
