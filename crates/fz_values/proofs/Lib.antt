pub mod Digits
pub mod NameLemmas
pub mod ArgLemmas
