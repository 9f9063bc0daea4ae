pub mod BodyLaws
pub mod from_record
