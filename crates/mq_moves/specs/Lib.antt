pub mod Moving
pub mod Landed
pub mod from_agents
