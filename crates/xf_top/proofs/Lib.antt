pub mod RowLemmas
pub mod ConversionLemmas
pub mod WrittenLemmas
