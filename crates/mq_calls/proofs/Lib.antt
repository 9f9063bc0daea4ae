pub mod from_objects
pub mod from_resolve
