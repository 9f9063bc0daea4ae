use Rattle.std.proofs.Common.{◌≡◌, ◌++◌, drop}
use Rattle.mq_sc_lex.specs.Tokens.{commands_in, numbered}
use Rattle.mq_sc_lex.proofs.CommandLaws.{goes_on}
use Rattle.mq_sc_lex.proofs.tokens.Commanding.add_line.Given as goal

abbrev pub invariant-loop-piece : goal.invariant-loop-piece
invariant-loop-piece l = goes_on l.self (commands_in l.marks (drop l.piece-index l.piece-items)) ≡ l.fn.self.lines ++ numbered (commands_in l.marks l.piece-items)
