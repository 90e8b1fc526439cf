pub mod Emitted
pub mod Loops
pub mod Compare
pub mod Sums
pub mod Conditions
pub mod Literals
