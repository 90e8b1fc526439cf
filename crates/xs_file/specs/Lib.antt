pub mod Asked
pub mod Held
pub mod Reading
pub mod Sections
