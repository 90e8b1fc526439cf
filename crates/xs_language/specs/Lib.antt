pub mod Written
pub mod Language
pub mod Law
