pub mod Pair
pub mod Turns
pub mod Letters
pub mod RowsRestarts
pub mod RowsBatches
pub mod RowsWaits
pub mod RowsImages
pub mod from_spec_manager
