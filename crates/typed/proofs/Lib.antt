pub mod SpelledLaws
pub mod SplitLaws
pub mod LineLaws
