pub mod FieldLemmas
pub mod OwnerLemmas
pub mod PieceLemmas
pub mod CountLemmas
pub mod NamedLemmas
pub mod TakenLemmas
pub mod DomainLemmas
pub mod SoundLemmas
