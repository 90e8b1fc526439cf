pub mod Circuit
pub mod Laws
