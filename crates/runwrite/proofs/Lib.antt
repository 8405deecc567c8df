pub mod Judging
pub mod Writing
pub mod Back
pub mod Words
