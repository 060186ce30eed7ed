pub mod Address
pub mod Laws
