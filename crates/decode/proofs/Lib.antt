pub mod DecodeLaws
pub mod DecodeSteps
