pub mod Conditions
pub mod Progress
pub mod Notes
pub mod Items
pub mod Outcome
