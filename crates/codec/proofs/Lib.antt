pub mod EncodeLaws
pub mod DescribeLaws
pub mod EditLaws
