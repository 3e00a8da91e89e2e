pub mod Work
pub mod Held
