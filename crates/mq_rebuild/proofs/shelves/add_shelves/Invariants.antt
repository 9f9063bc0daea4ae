use Rattle.std.proofs.Common.{◌≡◌}
use Rattle.std.specs.Prelude.{reverse, length}
use Rattle.mq_rebuild.specs.Rebuilt.{shelves_added, CanAddShelves}
use Rattle.mq_rebuild.proofs.shelves.add_shelves.Given as goal

abbrev pub invariant-loop-shelf : goal.invariant-loop-shelf
invariant-loop-shelf l = record {
  can : CanAddShelves l.defs.definitions (reverse l.left.items) l.queues.states;
  made : shelves_added l.defs.definitions l.fn.shelves l.fn.queues.states ≡ shelves_added l.defs.definitions (reverse l.left.items) l.queues.states;
}

abbrev pub decreases-loop-shelf : goal.decreases-loop-shelf
decreases-loop-shelf l = length l.left.items
