use Rattle.std.proofs.Common.{◌≡◌, ◌≤◌, length, drop, true}
use Rattle.mq_sc_lex.specs.Joining.{are_blank}
use Rattle.mq_sc_lex.proofs.joining.trimmed_len.Given as goal

abbrev pub invariant-trimming : goal.invariant-trimming
invariant-trimming l = record {
  within : l.len ≤ length l.bytes;
  blanks : are_blank (drop l.len l.bytes) ≡ true;
}

abbrev pub decreases-trimming : goal.decreases-trimming
decreases-trimming l = l.len
