use Rattle.std.proofs.Common.{◌≤◌, length}
use Rattle.crossbeam_queue.specs.Passes.{view, IsPassOf}
use Rattle.mq_ruled.proofs.Drains.{Drained}
use Rattle.mq_ruled.proofs.pipe.drain.Given as goal

abbrev pub invariant-loop : goal.invariant-loop
invariant-loop g l =
    record {
      can : (goal.iterator-loop g).can_next l.iterator';
      finite : (goal.iterator-loop g).is_finite l.iterator';
      pass : IsPassOf l.pipe l.pass;
      room : length l.initial.items ≤ 1;
      drained : Drained (view l.initial.pass) (view l.pass) l.initial.items l.items;
    }
