pub mod Listing
pub mod Work
