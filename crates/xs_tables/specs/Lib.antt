pub mod Groups
pub mod Tuples
pub mod Tables
pub mod Extension
pub mod Holding
