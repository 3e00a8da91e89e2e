pub mod Record
pub mod Open
pub mod Work
