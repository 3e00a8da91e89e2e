pub mod LinesLaws
pub mod KeptLaws
pub mod PutLaws
pub mod StepLaws
