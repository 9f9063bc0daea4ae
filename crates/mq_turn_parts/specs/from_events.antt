-- Definitions of mq_events, passed on to the crates above.
pub use Rattle.mq_events.specs.Counts as Counts
pub use Rattle.mq_events.specs.Disks as Disks
pub use Rattle.mq_events.specs.Events as Events
pub use Rattle.mq_events.specs.States as States
pub use Rattle.mq_events.specs.declared.outcome.Outcome.{Outcome}
pub use Rattle.mq_events.specs.declared.outcome.Told.{Told}
