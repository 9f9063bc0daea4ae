use Rattle.std.proofs.Common.{◌≡◌, length}
use Rattle.mq_place.specs.States.{rows_after}
use Rattle.mq_calls.specs.Words.{stored}
use Rattle.mq_spec_node.specs.Words.{next_letter}
use Rattle.mq_handle.proofs.LetterLaws.{left}
use Rattle.mq_handle.proofs.finding.next_letter.Given as goal

abbrev pub decreases-walking : goal.decreases-walking
decreases-walking g l = length (rows_after l.after (stored l.queue l.core.plain).rows)

abbrev pub invariant-walking : goal.invariant-walking
invariant-walking g l = record {
  same : left l.queue l.handler l.core.plain l.after ≡ next_letter l.queue l.handler l.core.plain;
}
