pub mod Different
pub mod Forms
pub mod Intension
pub mod Unit
