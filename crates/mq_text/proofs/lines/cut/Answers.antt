use Rattle.std.proofs.Common.{sym}
use Rattle.mq_text.proofs.LineLaws.{cut_at, cut_none}
use Rattle.mq_text.proofs.lines.cut.Goals as goal

pub returns-in-None-clause-parts : goal.returns-in-None-clause-parts
returns-in-None-clause-parts c = sym (cut_none c.args.byte c.args.bytes.now (sym c.in-None.ensures))

pub returns-in-Some-clause-parts : goal.returns-in-Some-clause-parts
returns-in-Some-clause-parts c = rw (c.split_at-in-Some.ensures.back, c.split_at.ensures.front, c.split_at.ensures.back) (sym (cut_at c.args.byte c.args.bytes.now c.in-Some.at (sym c.in-Some.ensures)))
