-- Definitions of mq_restarts, passed on to the crates above.
pub use Rattle.mq_manager.specs.from_restarts.BackVariants as BackVariants
pub use Rattle.mq_manager.specs.from_restarts.Backs as Backs
pub use Rattle.mq_manager.specs.from_restarts.{Back}
