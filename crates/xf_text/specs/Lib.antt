pub mod Fault
pub mod Memory
pub mod Number
pub mod Outside
