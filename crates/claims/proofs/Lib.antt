mod Computed
mod Between
mod Tabled
pub mod Rules
pub mod Decided
pub mod Claims
