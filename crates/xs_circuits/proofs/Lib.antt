pub mod FittingLemmas
pub mod GoodLemmas
pub mod TextLemmas
pub mod WalkLemmas
pub mod WordLemmas
pub mod WrittenLemmas
