pub mod GoodLemmas
pub mod MissedLemmas
mod TextLemmas
mod WrittenLemmas
