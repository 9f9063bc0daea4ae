pub mod Runs
pub mod Promises
pub mod from_course
pub mod from_law_events
pub mod from_law_one
pub mod from_law_run
pub mod from_net_ledger
pub mod from_standing
