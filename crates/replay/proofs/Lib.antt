pub mod FrontLaws
pub mod Sounds
pub mod Playing
pub mod Texts
pub mod Opened
pub mod Longest
