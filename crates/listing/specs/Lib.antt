pub mod Listing
pub mod Going
