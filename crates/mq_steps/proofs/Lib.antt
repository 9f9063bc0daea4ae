pub mod CountLaws
pub mod DoingLaws
pub mod LinesLaws
pub mod PartLaws
pub mod PhaseLaws
pub mod ServedLaws
