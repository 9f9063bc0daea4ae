use Rattle.std.proofs.Common.{◌≡◌, ◌≤◌, ◌*◌, [], length}
use Rattle.mq_split.specs.Ends.{EachIs}
use Rattle.mq_split.specs.Parting.{EndRowState}
use Rattle.mq_split.proofs.parting.room_for_ends.Given as goal

abbrev pub invariant-loop : goal.invariant-loop
invariant-loop g l = record {
  long : length l.rows ≡ l.counter;
  each : EachIs (λ (r : EndRowState). (r.ends ≡ []) × (2 * l.cables ≤ r.room)) l.rows;
}
