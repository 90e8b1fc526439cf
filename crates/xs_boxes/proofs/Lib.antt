pub mod TupleLemmas
pub mod ClearLemmas
pub mod MissedLemmas
pub mod GoodLemmas
pub mod TextLemmas
pub mod WordLemmas
pub mod TextsLemmas
pub mod WrittenLemmas
