pub mod MoveLaws
pub mod LandLaws
pub mod from_agents
pub mod from_get
