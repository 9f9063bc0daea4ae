use Rattle.std.proofs.Common.{◌≡◌, ◌≤◌, length}
use Rattle.mq_scn_lines.specs.Words.{words_from, first_word}
use Rattle.mq_scn_lines.proofs.words.first_word.Given as goal

abbrev pub invariant-skipping : goal.invariant-skipping
invariant-skipping l = record {
  words : words_from 0 l.text ≡ words_from 0 l.rest;
  first : first_word l.text ≡ first_word l.rest;
  within : length l.rest ≤ length l.text;
}

abbrev pub decreases-skipping : goal.decreases-skipping
decreases-skipping l = length l.rest
