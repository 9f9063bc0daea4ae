use Rattle.std.proofs.Common.{◌≡◌, ◌≤◌, ℕ, length}
use Rattle.std.specs.Prelude.{Some, slice_get, vec_len, vec_capacity}
use Rattle.mq_core.specs.Values.{CoreValue}
use Rattle.mq_spec_node.specs.Words.{Own, begun_anew}
use Rattle.mq_spec_network.specs.Given.{own_at}
use Rattle.mq_world_begin.proofs.opened.owns_of.Given as goal

abbrev pub invariant-loop-manager : goal.invariant-loop-manager
invariant-loop-manager g l = record {
  all : length l.owns.items ≡ l.manager-index;
  many : vec_len l.owns ≡ l.manager-index;
  room : length l.managers ≤ vec_capacity l.owns;
  each : (m : ℕ) (v : CoreValue) (own : Own) → slice_get l.managers m ≡ Some v → slice_get l.owns.items m ≡ Some own → own ≡ (begun_anew v.plain (own_at l.scenario m)).own;
}
