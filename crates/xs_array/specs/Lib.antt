pub mod ArrayUnit
pub mod Cells
pub mod DomainChild
pub mod Owners
pub mod Reading
