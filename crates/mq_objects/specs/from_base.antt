-- Definitions of mq_base, passed on to the crates above.
pub use Rattle.mq_base.specs.Name as Name
pub use Rattle.mq_base.specs.declared.fault.NameFault.{NameFault}
