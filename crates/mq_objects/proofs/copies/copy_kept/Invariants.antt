use Rattle.std.proofs.Common.{◌≡◌, take}
use Rattle.mq_objects.proofs.copies.copy_kept.Given as goal

abbrev pub invariant-loop-attribute : goal.invariant-loop-attribute
invariant-loop-attribute l = l.copies ≡ take l.attribute-index l.attribute-items
