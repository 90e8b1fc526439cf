pub mod Known
pub mod Law
pub mod Lists
pub mod Measures
pub mod Objective
pub mod Written
