use Rattle.std.proofs.Common.{◌≡◌, drop}
use Rattle.mq_objects.specs.Slots.{present}
use Rattle.mq_steer.specs.Rests.{objects_unawaited}
use Rattle.mq_steer.proofs.stopping.unawait_slots.Given as goal

abbrev pub invariant-loop-slot : goal.invariant-loop-slot
invariant-loop-slot l = let q = l.queues in (record q { states = objects_unawaited (present (drop l.slot-index l.slots)) q.states } ≡ record l.fn.queues { states = objects_unawaited (present l.slots) l.fn.queues.states })
