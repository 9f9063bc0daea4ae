pub mod Views
pub mod from_spec_node
