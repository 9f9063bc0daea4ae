use Rattle.std.proofs.Common.{◌≡◌, drop}
use Rattle.mq_objects.specs.Slots.{present}
use Rattle.mq_objects.specs.Names.{locals_in}
use Rattle.mq_spec_manager.specs.Triggers.{first_due}
use Rattle.mq_core.specs.Views.{plain_of}
use Rattle.mq_steer.proofs.triggers.due_walked.Given as goal

abbrev pub invariant-loop-slot : goal.invariant-loop-slot
invariant-loop-slot g l = first_due (locals_in (present (drop l.slot-index l.slot-items))) (plain_of l.parts) ≡ first_due (locals_in l.parts.defs.definitions.objects) (plain_of l.parts)
