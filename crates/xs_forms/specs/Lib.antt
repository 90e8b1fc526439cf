pub mod Seen
pub mod Forms
pub mod Room
pub mod Laws
