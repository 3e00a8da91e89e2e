pub mod DecodeKept
pub mod Work
