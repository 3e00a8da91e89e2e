pub mod SpliceLaws
