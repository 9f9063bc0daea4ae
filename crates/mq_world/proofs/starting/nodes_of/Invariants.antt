use Rattle.std.proofs.Common.{◌≡◌, ◌≤◌, ◌+◌, ℕ, length, drop}
use Rattle.std.specs.Prelude.{All, Some, reverse, slice_get, vec_len, vec_capacity}
use Rattle.mq_watch.specs.from_events.States.{NodeState}
use Rattle.mq_world.specs.Starting.{IsRoom, StartsAt}
use Rattle.mq_world.proofs.starting.nodes_of.Given as goal

abbrev pub invariant-loop-line : goal.invariant-loop-line
invariant-loop-line g l = record {
  managers : reverse l.managers.items ≡ drop l.line-index l.fn.managers.items;
  owns : reverse l.owns.items ≡ drop l.line-index l.fn.owns.items;
  histories : reverse l.histories.items ≡ drop l.line-index l.fn.histories.items;
  rooms : All (IsRoom (length l.scenario.steps)) l.rooms.items;
  rooms_left : vec_len l.rooms + l.line-index ≡ length l.scenario.managers;
  managers_left : vec_len l.managers + l.line-index ≡ length l.scenario.managers;
  owns_left : vec_len l.owns + l.line-index ≡ length l.scenario.managers;
  histories_left : vec_len l.histories + l.line-index ≡ length l.scenario.managers;
  room : vec_len l.nodes + vec_len l.managers ≤ vec_capacity l.nodes;
  all : length l.nodes.items ≡ l.line-index;
  each : (m : ℕ) (n : NodeState) → slice_get l.nodes.items m ≡ Some n → StartsAt l.scenario l.fn.histories.items m n;
}
