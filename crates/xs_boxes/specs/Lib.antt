pub mod Tuples
pub mod Boxes
pub mod NoOverlap
pub mod Tests
pub mod Written
pub mod Law
