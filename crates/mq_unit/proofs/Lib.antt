pub mod UnitLaws
pub mod from_record
