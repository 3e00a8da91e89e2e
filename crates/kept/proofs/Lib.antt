pub mod RecordLaws
pub mod OpenLaws
