pub mod Parity
pub mod Placed
pub mod Changes
