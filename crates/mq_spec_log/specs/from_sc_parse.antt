-- Definitions of mq_sc_parse, passed on to the crates above.
pub use Rattle.mq_sc_parse.specs.Parsing as Parsing
pub use Rattle.mq_sc_parse.specs.Splitting as Splitting
