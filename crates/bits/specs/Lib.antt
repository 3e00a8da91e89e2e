pub mod Bits
pub mod Differences
pub mod Polynomial
pub mod Work
