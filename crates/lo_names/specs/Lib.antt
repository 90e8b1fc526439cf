pub mod Indices
pub mod LowNames
pub mod Shown
pub mod Spelling
