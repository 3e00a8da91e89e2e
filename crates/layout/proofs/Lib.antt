pub mod DigitLaws
pub mod SentLaws
pub mod FillLaws
pub mod PackLaws
pub mod MessageLaws
pub mod FieldLaws
pub mod ReadingLaws
