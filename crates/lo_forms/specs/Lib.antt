pub mod Different
pub mod Laws
