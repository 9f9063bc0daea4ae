use Rattle.std.proofs.Common.{◌≡◌, ◌≤◌, ◌+◌, length}
use Rattle.std.specs.Prelude.{vec_capacity, vec_len}
use Rattle.mq_shared.specs.Taking.{CoursesBelow, EndsWait, NodesWait, OthersStay, RowsWait}
use Rattle.mq_shared.proofs.sharing.lock_all.Given as goal

abbrev pub invariant-loop-node : goal.invariant-loop-node
invariant-loop-node g l = record {
  nodes : NodesWait g.P.PhaseName.begun l.nodes;
  few : length l.nodes ≤ length l.scenario.managers;
  ends : EndsWait g.P.PhaseName.begun (record { scenario = l.scenario; scripts = l.scripts }) l.ends;
  ends_long : length l.ends ≡ length l.nodes;
  rows : RowsWait (length l.scenario.scripts) l.rows;
  rows_long : length l.rows ≡ length l.nodes;
  long : length l.courses ≡ length l.fn.courses;
  courses : CoursesBelow (record { scenario = l.scenario; scripts = l.scripts }) g.P.PhaseName.begun (length l.nodes) l.courses;
  others : OthersStay (record { scenario = l.scenario; scripts = l.scripts }) l.fn.courses l.courses;
  room : vec_len l.locks + length l.nodes ≤ vec_capacity l.locks;
  all : vec_len l.locks + length l.nodes ≡ vec_len l.fn.locks + length l.fn.nodes;
}

abbrev pub decreases-loop-node : goal.decreases-loop-node
decreases-loop-node g l = length l.nodes
