use Rattle.std.proofs.Common.{◌≡◌, ◌++◌, drop, map}
use Rattle.mq_objects.specs.Names.{locals_in}
use Rattle.mq_objects.specs.Slots.{present}
use Rattle.mq_standing.specs.Stands.{queue_standing}
use Rattle.mq_standing.proofs.queues.put_queues.Given as goal

abbrev pub invariant-loop-slot : goal.invariant-loop-slot
invariant-loop-slot g l = l.out ++ map (queue_standing l.core.plain) (locals_in (present (drop l.slot-index l.slots))) ≡ l.fn.out ++ map (queue_standing l.core.plain) (locals_in (present l.fn.slots))
