pub mod Place
pub mod Steps
pub mod Parts
