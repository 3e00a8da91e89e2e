pub mod CodeLaws
pub mod MakeLaws
pub mod ReadLaws
