use Rattle.std.proofs.Common.{◌≡◌}
use Rattle.std.specs.Prelude.{reverse, length}
use Rattle.mq_receive.specs.Placed.{landed_all, AreLanding}
use Rattle.mq_receive.proofs.placing.place_all.Given as goal

abbrev pub invariant-loop-arrival : goal.invariant-loop-arrival
invariant-loop-arrival g l = record {
  ready : AreLanding (reverse l.left.items) l.parts;
  made : landed_all l.fn.landed l.fn.parts ≡ landed_all (reverse l.left.items) l.parts;
}

abbrev pub decreases-loop-arrival : goal.decreases-loop-arrival
decreases-loop-arrival g l = length l.left.items
