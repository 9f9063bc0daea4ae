-- Definitions of mq_handles, passed on to the crates above.
pub use Rattle.mq_trigger.specs.from_handles.Desks as Desks
pub use Rattle.mq_trigger.specs.from_handles.Rising as Rising
pub use Rattle.mq_trigger.specs.from_handles.Seats as Seats
