pub mod Lookup
pub mod Distinct
pub mod Cables
pub mod Phases
pub mod Parts
pub mod Heading
pub mod Steps
pub mod from_scn_script
