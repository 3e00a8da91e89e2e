pub mod Sizes
pub mod Describe
pub mod Encode
pub mod Edit
pub mod Work
