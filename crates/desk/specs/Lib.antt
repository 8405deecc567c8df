pub mod Desk
pub mod Acts
pub mod Ready
pub mod Parts
