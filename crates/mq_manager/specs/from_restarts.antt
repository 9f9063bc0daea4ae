-- Definitions of mq_restarts, passed on to the crates above.
pub use Rattle.mq_restarts.specs.Backs as Backs
pub use Rattle.mq_restarts.specs.declared.restarting.Back.TheVariants as BackVariants
pub use Rattle.mq_restarts.specs.declared.restarting.Back.{Back}
