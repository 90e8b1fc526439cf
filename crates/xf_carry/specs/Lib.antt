pub mod Lines
pub mod Lowered
pub mod Passes
pub mod Writing
