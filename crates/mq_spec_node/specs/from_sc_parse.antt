-- Definitions of mq_sc_parse, passed on to the crates above.
pub use Rattle.mq_history.specs.from_sc_parse.CommandVariants as CommandVariants
pub use Rattle.mq_history.specs.from_sc_parse.OpVariants as OpVariants
pub use Rattle.mq_history.specs.from_sc_parse.{Command}
