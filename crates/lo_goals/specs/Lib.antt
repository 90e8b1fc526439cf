pub mod Goal
pub mod Laws
