pub mod Walk
pub mod Steps
pub mod Reach
pub mod Layers
pub mod Carried
pub mod Examples
pub mod Round
pub mod Flags
