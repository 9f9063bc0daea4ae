-- Definitions of mq_sc_lex, passed on to the crates above.
pub use Rattle.mq_sc_lex.specs.Commands as Commands
pub use Rattle.mq_sc_lex.specs.declared.fault.LexFault.{LexFault}
pub use Rattle.mq_sc_lex.specs.declared.token.Line.{Line}
