use Rattle.std.proofs.Common.{◌≡◌}
use Rattle.std.specs.Prelude.{reverse, length}
use Rattle.mq_core.specs.Placing.{put_each}
use Rattle.mq_ends.specs.Ends.{AreReady}
use Rattle.mq_ends.proofs.units.place_rows.Given as goal

abbrev pub invariant-loop-item : goal.invariant-loop-item
invariant-loop-item g l = record {
  ready : AreReady (reverse l.left.items) l.parts;
  made : put_each l.fn.items l.fn.parts ≡ put_each (reverse l.left.items) l.parts;
}

abbrev pub decreases-loop-item : goal.decreases-loop-item
decreases-loop-item g l = length l.left.items
