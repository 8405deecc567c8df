pub mod WholeLaws
pub mod Codes
