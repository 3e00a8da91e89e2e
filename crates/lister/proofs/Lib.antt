pub mod ListLaws
pub mod BookLaws
