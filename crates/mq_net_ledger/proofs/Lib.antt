pub mod AnswerLaws
pub mod ArrivalLaws
pub mod HeadLaws
pub mod OpenLaws
pub mod PostLaws
pub mod SpotLaws
pub mod UnitLaws
pub mod ReasonLaws
