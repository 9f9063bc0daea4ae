use Rattle.std.proofs.Common.{◌≡◌}
use Rattle.std.specs.Prelude.{reverse, length}
use Rattle.mq_rebuild.specs.Rebuilt.{objects_set}
use Rattle.mq_rebuild.proofs.objects.add_objects.Given as goal

abbrev pub invariant-loop-object : goal.invariant-loop-object
invariant-loop-object l = objects_set l.fn.objects l.fn.defs.definitions ≡ objects_set (reverse l.left.items) l.defs.definitions

abbrev pub decreases-loop-object : goal.decreases-loop-object
decreases-loop-object l = length l.left.items
