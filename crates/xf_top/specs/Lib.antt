pub mod Formats
pub mod Commands
pub mod Promises
pub mod Runs
pub mod Texts
