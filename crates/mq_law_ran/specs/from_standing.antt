-- Definitions of mq_standing, passed on to the crates above.
pub use Rattle.mq_standing.specs.Stands as Stands
