pub mod Words
pub mod Statuses
pub mod Forms
pub mod Ends
pub mod Leaves
pub mod from_law_ran
pub mod from_soak
