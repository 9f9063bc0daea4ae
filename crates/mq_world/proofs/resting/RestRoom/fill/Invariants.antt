use Rattle.std.proofs.Common.{◌≡◌, ◌≤◌, ◌+◌, ◌++◌, length}
use Rattle.std.specs.Prelude.{map, reverse, vec_len, vec_capacity}
use Rattle.mq_world.specs.Resting.{AreRisen, faults_in, manager_in, own_in}
use Rattle.mq_world.specs.Worlds.{history_in}
use Rattle.mq_world.proofs.resting.RestRoom.fill.Given as goal

abbrev pub invariant-loop-node : goal.invariant-loop-node
invariant-loop-node g l = record {
  managers : l.managers.items ++ map manager_in (reverse l.left.items) ≡ map manager_in l.fn.nodes;
  owns : l.owns.items ++ map own_in (reverse l.left.items) ≡ map own_in l.fn.nodes;
  histories : l.histories.items ++ map history_in (reverse l.left.items) ≡ map history_in l.fn.nodes;
  risen : AreRisen (map faults_in l.managers.items) l.histories.items;
  managers_room : vec_len l.managers + vec_len l.left ≤ vec_capacity l.managers;
  owns_room : vec_len l.owns + vec_len l.left ≤ vec_capacity l.owns;
  histories_room : vec_len l.histories + vec_len l.left ≤ vec_capacity l.histories;
}

abbrev pub decreases-loop-node : goal.decreases-loop-node
decreases-loop-node g l = length l.left.items
