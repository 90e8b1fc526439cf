pub mod TestLemmas
pub mod LineLemmas
pub mod ShapeLemmas
