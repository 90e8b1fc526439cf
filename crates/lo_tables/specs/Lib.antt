pub mod Table
pub mod Unary
pub mod Form
pub mod Laws
