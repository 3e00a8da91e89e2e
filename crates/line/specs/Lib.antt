pub mod Line
pub mod Work
