pub mod Made
pub mod PowerLemmas
pub mod LowerLemmas
pub mod BoundLemmas
pub mod Within
pub mod Accepted
pub mod Examples
