pub mod Keys
pub mod from_law_node
