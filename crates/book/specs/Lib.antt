pub mod Book
pub mod Read
pub mod Write
