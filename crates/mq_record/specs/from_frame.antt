-- Definitions of mq_frame, passed on to the crates above.
pub use Rattle.mq_frame.specs.Frames as Frames
pub use Rattle.mq_frame.specs.declared.fault.Miss.{Miss}
