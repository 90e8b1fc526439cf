pub mod BelowLemmas
pub mod GroupLemmas
pub mod TableLemmas
pub mod ScanLemmas
pub mod FormedLemmas
pub mod AnswerLemmas
pub mod HoldLemmas
