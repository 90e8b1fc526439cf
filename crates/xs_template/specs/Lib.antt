pub mod Template
pub mod Windows
pub mod Concrete
pub mod Alike
