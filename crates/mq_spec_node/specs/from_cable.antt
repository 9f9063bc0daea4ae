-- Definitions of mq_cable, passed on to the crates above.
pub use Rattle.mq_history.specs.from_cable.FaultVariants as FaultVariants
pub use Rattle.mq_history.specs.from_cable.Faults as Faults
pub use Rattle.mq_history.specs.from_cable.{Fault}
