pub mod Squares
pub mod MendLaws
pub mod RunLaws
