use Rattle.std.proofs.Common.{◌≡◌, ◌++◌, drop}
use Rattle.mq_objects.specs.Slots.{present}
use Rattle.mq_objects.proofs.copies.copy_objects.Given as goal

abbrev pub invariant-loop-slot : goal.invariant-loop-slot
invariant-loop-slot l = l.objects ++ present (drop l.slot-index l.slots) ≡ present l.fn.slots
