pub mod Emitted
pub mod Gathered
pub mod Rules
pub mod Lowering
