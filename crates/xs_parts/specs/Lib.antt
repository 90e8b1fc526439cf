pub mod Parts
pub mod Nesting
