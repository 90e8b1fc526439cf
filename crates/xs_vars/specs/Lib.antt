pub mod Declarations
pub mod Kept
pub mod Law
