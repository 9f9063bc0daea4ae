use Rattle.std.proofs.Common.{◌≡◌, ◌≤◌, ◌++◌, [], true, length}
use Rattle.crossbeam_queue.specs.Passes.{view, IsPassOf, ruled_capacity}
use Rattle.mq_cable.specs.Lists.{AllLow}
use Rattle.mq_ruled.specs.Rule.{knows}
use Rattle.mq_ruled.proofs.pipe.fill.Given as goal

abbrev pub invariant-loop-item : goal.invariant-loop-item
invariant-loop-item g l =
    record {
      pass : IsPassOf l.pipe l.pass;
      cap : ruled_capacity l.pipe ≡ 64;
      is : view l.pass ≡ knows true true (view l.pass).sent [];
      all : (view l.pass).sent ++ l.items ≡ l.initial.items;
      low : AllLow l.items;
      room : length l.initial.items ≤ 64;
    }

abbrev pub decreases-loop-item : goal.decreases-loop-item
decreases-loop-item g l = length l.items
