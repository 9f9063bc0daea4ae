use Rattle.std.proofs.Common.{◌≡◌, ◌++◌, take, drop}
use Rattle.std.specs.Prelude.{map}
use Rattle.mq_watch.specs.from_events.States.{marked}
use Rattle.mq_world.proofs.marks.mark_all.Given as goal

abbrev pub invariant-loop-at : goal.invariant-loop-at
invariant-loop-at g l = l.nodes ≡ map (marked l.idle) (take l.at l.fn.nodes) ++ drop l.at l.fn.nodes
