use Rattle.std.proofs.Common.{◌≡◌, ◌≤◌, ◌+◌, length}
use Rattle.mq_text.specs.Lines.{lines_of}
use Rattle.mq_rules_text.proofs.reading.line_count.Given as goal

abbrev pub invariant-counting : goal.invariant-counting
invariant-counting l = record {
  counted : l.count + length (lines_of l.rest) ≡ length (lines_of l.text);
  small : l.count + length l.rest ≤ length l.text;
}

abbrev pub decreases-counting : goal.decreases-counting
decreases-counting l = length l.rest
