pub mod LookLaws
pub mod BeginLaws
pub mod MonitorLaws
pub mod WatchLaws
pub mod from_events
