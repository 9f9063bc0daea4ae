pub mod CableLaws
pub mod RowLaws
pub mod IdentLaws
pub mod TwiceLaws
