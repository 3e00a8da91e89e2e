pub mod Says
pub mod Work
