-- Definitions of mq_scn_grammar, passed on to the crates above.
pub use Rattle.mq_scn_grammar.specs.Commands as Commands
pub use Rattle.mq_scn_grammar.specs.ScriptLines as ScriptLines
