-- Definitions of mq_rebuild, passed on to the crates above.
pub use Rattle.mq_rebuild.specs.Rebuilt as Rebuilt
pub use Rattle.mq_rebuild.specs.declared.building.Built.{Built}
