pub mod Runs
pub mod Example
pub mod Starred
pub mod Pinned
pub mod Between
pub mod Tables
