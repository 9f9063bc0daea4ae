use Rattle.std.proofs.Common.{◌≡◌, drop, slice_get}
use Rattle.mq_objects.specs.Slots.{present}
use Rattle.mq_objects.proofs.defs.Defs.object_at.Given as goal

abbrev pub invariant-loop-slot : goal.invariant-loop-slot
invariant-loop-slot l = slice_get (present (drop l.slot-index l.slot-items)) l.left ≡ slice_get l.self.definitions.objects l.place
