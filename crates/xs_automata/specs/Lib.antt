pub mod Transitions
pub mod Numbers
pub mod Ends
pub mod Regular
pub mod Mdd
