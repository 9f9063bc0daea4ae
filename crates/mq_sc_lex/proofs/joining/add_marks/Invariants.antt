use Rattle.std.proofs.Common.{◌≡◌, ◌+◌, ◌++◌, drop}
use Rattle.mq_sc_lex.specs.Joining.{marks_from}
use Rattle.mq_sc_lex.proofs.joining.add_marks.Given as goal

abbrev pub invariant-loop-index : goal.invariant-loop-index
invariant-loop-index l = l.marks ++ marks_from l.line (l.at + l.index) (drop l.index l.bytes) ≡ l.fn.marks ++ marks_from l.line l.at l.bytes
