pub mod Make
pub mod Read
