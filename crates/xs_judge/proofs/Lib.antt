pub mod Counted
pub mod FieldWeights
pub mod Fields
