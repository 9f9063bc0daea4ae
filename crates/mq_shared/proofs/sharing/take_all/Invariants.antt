use Rattle.std.proofs.Common.{◌≡◌, ◌≤◌, ◌+◌, false, length}
use Rattle.std.specs.Prelude.{vec_capacity, vec_len}
use Rattle.mq_split.specs.Parting.{AllFree}
use Rattle.mq_shared.specs.Taking.{AreBack, AreDone, AreOut, OthersStay, OwnOut}
use Rattle.mq_shared.proofs.sharing.take_all.Given as goal

abbrev pub invariant-loop-lock : goal.invariant-loop-lock
invariant-loop-lock g l = record {
  count : length l.nodes.items + vec_len l.locks ≡ vec_len l.fn.locks;
  count_ends : length l.ends.items + vec_len l.locks ≡ vec_len l.fn.locks;
  room : vec_len l.nodes + vec_len l.locks ≤ vec_capacity l.nodes;
  room_ends : vec_len l.ends + vec_len l.locks ≤ vec_capacity l.ends;
  out : AreOut g.P.PhaseName.begun l.nodes.items l.ends.items;
  own : g.D.Disk.tells → OwnOut g.P.PhaseName.begun l.nodes.items;
  done : l.wants ≡ false → AreDone l.nodes.items;
  free : l.wants ≡ false → AllFree l.ends.items;
  long : length l.courses ≡ length l.fn.courses;
  others : OthersStay g.a l.fn.courses l.courses;
  back : AreBack g.a g.P.PhaseName.begun l.nodes.items l.courses;
}

abbrev pub decreases-loop-lock : goal.decreases-loop-lock
decreases-loop-lock g l = vec_len l.locks
