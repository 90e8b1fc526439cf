pub mod Ranges
pub mod Numbers
pub mod Truths
pub mod Nodes
pub mod Expressions
pub mod Sets
