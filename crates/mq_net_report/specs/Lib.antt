pub mod Steps
pub mod Report
pub mod from_net_stands
