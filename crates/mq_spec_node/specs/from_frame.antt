-- Definitions of mq_frame, passed on to the crates above.
pub use Rattle.mq_history.specs.from_frame.FrameKindVariants as FrameKindVariants
pub use Rattle.mq_history.specs.from_frame.SeenVariants as SeenVariants
pub use Rattle.mq_history.specs.from_frame.{Frame, Seen}
