pub mod Tests
pub mod Compared
