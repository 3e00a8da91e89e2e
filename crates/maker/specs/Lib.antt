pub mod Making
pub mod Work
