pub mod Tests
pub mod Counted
