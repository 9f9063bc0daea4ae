pub mod Laws
pub mod from_objects
