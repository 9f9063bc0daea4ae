pub mod RowsReport
pub mod PartLaws
pub mod StepLaws
