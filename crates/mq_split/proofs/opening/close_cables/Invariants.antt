use Rattle.std.proofs.Common.{◌≡◌, ◌≤◌, length}
use Rattle.mq_split.specs.Opening.{AreOpen, FirstBare, wholes}
use Rattle.mq_split.proofs.opening.close_cables.Given as goal

abbrev pub invariant-loop-ends : goal.invariant-loop-ends
invariant-loop-ends g l = record {
  opened : AreOpen l.pipes l.passes.items;
  few : length l.passes.items ≤ length l.cables;
  bare : FirstBare (length l.passes.items) l.cables;
  whole : wholes l.passes.items l.cables ≡ wholes l.initial.passes.items l.initial.cables;
}

abbrev pub decreases-loop-ends : goal.decreases-loop-ends
decreases-loop-ends g l = length l.passes.items
