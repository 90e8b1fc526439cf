pub mod LowLemmas
pub mod Reading
pub mod RowMajor
pub mod ShownLemmas
pub mod VarsLemmas
pub mod WordsLemmas
