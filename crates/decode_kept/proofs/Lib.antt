pub mod DecodeKeptLaws
