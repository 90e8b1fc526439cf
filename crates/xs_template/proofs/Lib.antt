pub mod SpotLemmas
pub mod WindowLemmas
pub mod TemplateLemmas
pub mod AlikeLemmas
