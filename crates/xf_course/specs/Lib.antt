pub mod Files
pub mod Course
pub mod Answers
pub mod Ends
