pub mod Integers
pub mod Names
pub mod Values
pub mod Kinds
