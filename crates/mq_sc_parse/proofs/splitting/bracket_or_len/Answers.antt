use Rattle.std.proofs.Common.{sym}
use Rattle.mq_sc_parse.proofs.SplitLaws.{no_bracket}
use Rattle.mq_sc_parse.proofs.splitting.bracket_or_len.Goals as goal

pub returns-in-None-clause-place : goal.returns-in-None-clause-place
returns-in-None-clause-place c = no_bracket c.args.tokens.now (sym c.in-None.ensures)
