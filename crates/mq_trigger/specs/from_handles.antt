-- Definitions of mq_handles, passed on to the crates above.
pub use Rattle.mq_handles.specs.Desks as Desks
pub use Rattle.mq_handles.specs.Rising as Rising
pub use Rattle.mq_handles.specs.Seats as Seats
