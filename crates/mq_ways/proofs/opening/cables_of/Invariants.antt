use Rattle.std.proofs.Common.{List, ◌++◌, drop}
use Rattle.mq_ways.specs.Ways.{AreNew, CableState}
use Rattle.mq_ways.proofs.opening.cables_of.Given as goal

abbrev pub invariant-loop-line : goal.invariant-loop-line
invariant-loop-line l = (rest : List CableState) → AreNew (drop l.line-index l.lines) rest → AreNew l.lines (l.cables ++ rest)
