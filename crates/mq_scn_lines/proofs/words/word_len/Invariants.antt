use Rattle.std.proofs.Common.{◌≡◌, ◌+◌, length}
use Rattle.mq_scn_lines.specs.Words.{word_len}
use Rattle.std.specs.Prelude.{false}
use Rattle.mq_scn_lines.proofs.words.word_len.Given as goal

abbrev pub invariant-reading : goal.invariant-reading
invariant-reading l = record {
  len : word_len false l.text ≡ l.len + word_len l.quoted l.rest;
  within : l.len + length l.rest ≡ length l.text;
}

abbrev pub decreases-reading : goal.decreases-reading
decreases-reading l = length l.rest
