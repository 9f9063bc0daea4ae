-- Definitions of mq_receive, passed on to the crates above.
pub use Rattle.mq_manager.specs.from_receive.Planned as Planned
pub use Rattle.mq_manager.specs.from_receive.Standings as Standings
