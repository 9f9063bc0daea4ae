pub mod PlaceLaws
pub mod TakeLaws
pub mod OrderLaws
pub mod SumLaws
pub mod KeptLaws
pub mod BondLaws
pub mod from_record
pub mod from_unit
