pub mod Minimals
pub mod Generator
pub mod Work
pub mod Minimal
pub mod Factors
