pub mod Rule
pub mod Laws
pub mod Formed
pub mod Conditions
pub mod Literals
