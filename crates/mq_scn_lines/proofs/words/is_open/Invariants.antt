use Rattle.std.proofs.Common.{◌≡◌, length}
use Rattle.std.specs.Prelude.{false}
use Rattle.mq_scn_lines.specs.Words.{is_open}
use Rattle.mq_scn_lines.proofs.words.is_open.Given as goal

abbrev pub invariant-reading : goal.invariant-reading
invariant-reading l = is_open false l.text ≡ is_open l.quoted l.rest

abbrev pub decreases-reading : goal.decreases-reading
decreases-reading l = length l.rest
