pub mod Circuit
pub mod Law
pub mod Written
