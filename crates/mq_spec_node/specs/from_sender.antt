-- Definitions of mq_sender, passed on to the crates above.
pub use Rattle.mq_sender.specs.States as States
pub use Rattle.mq_sender.specs.declared.state.SenderState.TheVariants as SenderStateVariants
pub use Rattle.mq_sender.specs.declared.state.SenderState.{SenderState}
