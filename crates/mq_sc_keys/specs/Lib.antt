pub mod Keys
pub mod Verbs
pub mod Attributes
pub mod Values
pub mod Shown
pub mod from_base
pub mod from_objects
