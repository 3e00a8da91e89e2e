pub mod Table
pub mod Rule
pub mod Sums
pub mod Look
pub mod Encoding
pub mod Rows
pub mod Work
