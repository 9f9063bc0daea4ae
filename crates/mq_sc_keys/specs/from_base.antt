-- Definitions of mq_base, passed on to the crates above.
pub use Rattle.mq_objects.specs.from_base.Name as Name
