-- Definitions of mq_frame, passed on to the crates above.
pub use Rattle.mq_frame.specs.Frames as Frames
pub use Rattle.mq_frame.specs.Sight as Sight
pub use Rattle.mq_frame.specs.declared.frame.Frame.{Frame}
pub use Rattle.mq_frame.specs.declared.frame.FrameKind.TheVariants as FrameKindVariants
pub use Rattle.mq_frame.specs.declared.frame.FrameKind.{FrameKind}
pub use Rattle.mq_frame.specs.declared.frame.Seen.TheVariants as SeenVariants
pub use Rattle.mq_frame.specs.declared.frame.Seen.{Seen}
