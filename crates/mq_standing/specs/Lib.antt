pub mod Stands
pub mod from_net_stands
