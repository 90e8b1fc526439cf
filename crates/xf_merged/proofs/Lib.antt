pub mod MergedLemmas
