pub mod Sum
pub mod Product
pub mod Power
pub mod Tables
