-- Definitions of mq_net_stands, passed on to the crates above.
pub use Rattle.mq_net_stands.specs.declared.standing.Standing.{Standing}
