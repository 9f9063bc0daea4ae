-- Definitions of mq_spec_network, passed on to the crates above.
pub use Rattle.mq_spec_network.specs.Apart as Apart
pub use Rattle.mq_spec_network.specs.Given as Given
pub use Rattle.mq_spec_network.specs.Ledger as Ledger
pub use Rattle.mq_spec_network.specs.Promised as Promised
pub use Rattle.mq_spec_network.specs.Standing as Standing
pub use Rattle.mq_spec_network.specs.Story as Story
