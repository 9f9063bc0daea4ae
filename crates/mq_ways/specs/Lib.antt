pub mod Ways
pub mod from_wires
