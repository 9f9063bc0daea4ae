-- Definitions of mq_begin, passed on to the crates above.
pub use Rattle.mq_world_begin.specs.from_begin.Begun as Begun
pub use Rattle.mq_world_begin.specs.from_begin.NetFaultVariants as NetFaultVariants
pub use Rattle.mq_world_begin.specs.from_begin.{NetFault}
