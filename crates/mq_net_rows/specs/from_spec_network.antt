-- Definitions of mq_spec_network, passed on to the crates above.
pub use Rattle.mq_spec_network.specs.Ledger as Ledger
