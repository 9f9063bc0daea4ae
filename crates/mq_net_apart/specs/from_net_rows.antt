-- Definitions of mq_net_rows, passed on to the crates above.
pub use Rattle.mq_net_rows.specs.Homes as Homes
pub use Rattle.mq_net_rows.specs.Stored as Stored
