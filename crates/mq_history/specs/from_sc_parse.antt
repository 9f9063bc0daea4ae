-- Definitions of mq_sc_parse, passed on to the crates above.
pub use Rattle.mq_sc_parse.specs.declared.command.Command.TheVariants as CommandVariants
pub use Rattle.mq_sc_parse.specs.declared.command.Command.{Command}
pub use Rattle.mq_sc_parse.specs.declared.command.Op.TheVariants as OpVariants
pub use Rattle.mq_sc_parse.specs.declared.command.Op.{Op}
