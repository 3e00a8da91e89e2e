pub mod FillLaws
pub mod LookLaws
