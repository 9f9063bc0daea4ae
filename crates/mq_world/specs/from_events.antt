-- Definitions of mq_events, passed on to the crates above.
pub use Rattle.mq_watch.specs.from_events.Disks as Disks
