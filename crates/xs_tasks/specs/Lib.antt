pub mod Tasks
pub mod Sizes
pub mod Tested
pub mod Written
pub mod Law
