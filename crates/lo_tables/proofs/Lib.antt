pub mod Shared
pub mod Merged
pub mod TableLemmas
pub mod UnaryLemmas
pub mod SoundLemmas
pub mod FormLemmas
