pub mod NumberLemmas
pub mod PlaceLemmas
pub mod ScanLemmas
pub mod EndLemmas
pub mod FlagLemmas
pub mod TextLemmas
pub mod FormedLemmas
