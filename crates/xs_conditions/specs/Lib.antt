pub mod Spelling
pub mod Single
pub mod Ranges
pub mod Conditions
pub mod Flags
pub mod Occurrences
pub mod Scanning
