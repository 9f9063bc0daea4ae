pub mod StandLaws
pub mod TellLaws
pub mod UnitLaws
pub mod WriteLaws
pub mod ArrivalLaws
pub mod from_core
