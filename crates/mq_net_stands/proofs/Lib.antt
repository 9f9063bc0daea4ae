pub mod RowLaws
pub mod RowsStands
