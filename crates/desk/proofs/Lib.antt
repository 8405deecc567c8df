pub mod Acts
pub mod Codes
pub mod Fields
pub mod Laws
