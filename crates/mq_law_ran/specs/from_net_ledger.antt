-- Definitions of mq_net_ledger, passed on to the crates above.
pub use Rattle.mq_net_ledger.specs.Opened as Opened
