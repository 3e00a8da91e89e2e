pub mod Splice
pub mod Work
