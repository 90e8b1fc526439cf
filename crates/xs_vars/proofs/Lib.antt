pub mod ChildLemmas
mod DeclaredLemmas
mod DomainLemmas
pub mod OutcomeLemmas
mod VarLemmas
