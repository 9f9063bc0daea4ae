-- Definitions of mq_cable, passed on to the crates above.
pub use Rattle.mq_cable.specs.Faults as Faults
pub use Rattle.mq_cable.specs.declared.fault.Fault.TheVariants as FaultVariants
pub use Rattle.mq_cable.specs.declared.fault.Fault.{Fault}
pub use Rattle.mq_cable.specs.declared.item.Item.{Item}
