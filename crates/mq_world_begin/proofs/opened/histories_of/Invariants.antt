use Rattle.std.proofs.Common.{◌≡◌, ◌≤◌, ℕ, length}
use Rattle.std.specs.Prelude.{Some, slice_get, vec_len, vec_capacity}
use Rattle.mq_history.specs.declared.history.History.{History}
use Rattle.mq_core.specs.Values.{CoreValue}
use Rattle.mq_world_begin.specs.Rested.{OpensWith}
use Rattle.mq_world_begin.proofs.opened.histories_of.Given as goal

abbrev pub invariant-loop-manager : goal.invariant-loop-manager
invariant-loop-manager g l = record {
  all : length l.histories.items ≡ l.manager-index;
  many : vec_len l.histories ≡ l.manager-index;
  room : length l.managers ≤ vec_capacity l.histories;
  each : (m : ℕ) (v : CoreValue) (h : History) → slice_get l.managers m ≡ Some v → slice_get l.histories.items m ≡ Some h → OpensWith g.D.Disk.tells v h;
}
