pub mod NumberLaws
pub mod VerdictLaws
pub mod StruckLaws
