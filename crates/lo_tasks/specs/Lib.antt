pub mod Cumulative
pub mod Laws
pub mod Bounded
pub mod Form
