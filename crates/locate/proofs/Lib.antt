pub mod TermLaws
pub mod TrialLaws
pub mod FindLaws
