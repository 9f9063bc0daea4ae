-- Definitions of mq_receive, passed on to the crates above.
pub use Rattle.mq_receive.specs.Planned as Planned
pub use Rattle.mq_receive.specs.Standings as Standings
