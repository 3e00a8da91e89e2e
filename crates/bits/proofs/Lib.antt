pub mod BitLaws
pub mod Places
pub mod DistanceLaws
pub mod Turns
pub mod Lists
