use Rattle.std.proofs.Common.{◌≡◌, ◌+◌, ◌-◌, ◌≤◌, length}
use Rattle.mq_text.specs.Lines.{lines_of}
use Rattle.mq_sc_lex.specs.Joining.{joined_of}
use Rattle.mq_sc_lex.proofs.JoinLaws.{goes_on, IsFresh}
use Rattle.mq_sc_lex.proofs.joining.join_lines.Given as goal

abbrev pub invariant-reading : goal.invariant-reading
invariant-reading l = record {
  shorter : length l.rest ≤ length l.text;
  numbers : l.number + length l.rest ≤ length l.text + 1;
  fresh : IsFresh l.joining;
  so_far : goes_on l.joining l.number (length l.text - length l.rest) (lines_of l.rest) ≡ joined_of l.text;
}

abbrev pub decreases-reading : goal.decreases-reading
decreases-reading l = length l.rest
