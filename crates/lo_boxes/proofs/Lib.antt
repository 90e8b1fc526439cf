pub mod Shapes
pub mod Looping
pub mod Rooms
pub mod Shared
pub mod BoxValues
pub mod BoxRules
pub mod BoxFormed
pub mod BoxLaws
