pub mod Notation
pub mod Parse
pub mod Law
pub mod Nesting
pub mod Terms
pub mod Forms
pub mod Reading
pub mod Count
