pub mod Path
pub mod Places
pub mod Groups
pub mod Form
pub mod Laws
