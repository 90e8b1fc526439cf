pub mod CourseLemmas
pub mod EndLemmas
