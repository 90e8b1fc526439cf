pub mod Places
pub mod TableLemmas
pub mod BracketLemmas
pub mod NamesLemmas
pub mod FindLemmas
pub mod WordLemmas
pub mod SpanLemmas
mod LanguageExamples
mod ComparingExamples
mod CountingExamples
mod ScheduleExamples
mod FieldExamples
pub mod PairLemmas
pub mod CircuitLemmas
pub mod MddLemmas
pub mod FormLemmas
pub mod SameValues
pub mod DistinctLemmas
