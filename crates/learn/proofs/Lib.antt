pub mod Laws
pub mod Reasons
