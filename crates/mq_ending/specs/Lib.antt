pub mod Verdicts
pub mod Ends
pub mod from_net_report
