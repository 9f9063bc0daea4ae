use Rattle.std.proofs.Common.{◌≡◌, drop, []}
use Rattle.mq_sc_lex.specs.Commands.{commands_of_lines, behind_lines}
use Rattle.mq_sc_lex.proofs.commanding.commands_of_lines.Given as goal

abbrev pub invariant-loop-marks : goal.invariant-loop-marks
invariant-loop-marks l = record {
  so_far : behind_lines l.commanding.lines (commands_of_lines (drop l.marks-index l.lines)) ≡ commands_of_lines l.lines;
  current : l.commanding.current ≡ [];
}
