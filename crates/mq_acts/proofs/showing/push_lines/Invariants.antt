use Rattle.std.proofs.Common.{◌≡◌, ◌++◌, drop}
use Rattle.mq_acts.specs.Shows.{lines_of}
use Rattle.mq_acts.proofs.showing.push_lines.Given as goal

abbrev pub invariant-loop-end : goal.invariant-loop-end
invariant-loop-end g l = l.lines ++ lines_of l.name l.any_end l.manager.plain (drop l.end-index l.ends) ≡ lines_of l.name l.any_end l.manager.plain l.ends
