-- Definitions of mq_begin, passed on to the crates above.
pub use Rattle.mq_begin.specs.Begun as Begun
pub use Rattle.mq_begin.specs.declared.faults.NetFault.TheVariants as NetFaultVariants
pub use Rattle.mq_begin.specs.declared.faults.NetFault.{NetFault}
