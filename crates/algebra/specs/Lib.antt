pub mod Ring
pub mod Series
pub mod Key
