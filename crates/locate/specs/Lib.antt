pub mod Located
pub mod Work
pub mod Search
