-- Definitions of mq_sc_parse, passed on to the crates above.
pub use Rattle.mq_spec_network.specs.from_sc_parse.CommandVariants as CommandVariants
