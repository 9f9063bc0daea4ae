-- Definitions of mq_spec_network, passed on to the crates above.
pub use Rattle.mq_law_rows.specs.from_spec_network.Ledger as Ledger
pub use Rattle.mq_law_rows.specs.from_spec_network.Promised as Promised
pub use Rattle.mq_law_rows.specs.from_spec_network.Standing as Standing
pub use Rattle.mq_law_rows.specs.from_spec_network.Story as Story
