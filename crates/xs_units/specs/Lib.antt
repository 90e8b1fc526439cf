pub mod Forms
pub mod Rows
pub mod Units
pub mod Order
