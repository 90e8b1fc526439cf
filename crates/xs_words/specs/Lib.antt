pub mod Args
pub mod Compact
