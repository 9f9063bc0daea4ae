use Rattle.std.proofs.Common.{drop}
use Rattle.std.specs.List.{AllByRecursion}
use Rattle.mq_objects.specs.Slots.{present}
use Rattle.mq_objects.specs.Names.{locals_in}
use Rattle.mq_manager.specs.from_core.Views.{plain_of}
use Rattle.mq_events.specs.Counts.{HasFew}
use Rattle.mq_events.proofs.counting.are_few.Given as goal

abbrev pub invariant-loop-slot : goal.invariant-loop-slot
invariant-loop-slot g l = AllByRecursion (HasFew (plain_of l.parts)) (locals_in (present (drop l.slot-index l.slot-items))) → AllByRecursion (HasFew (plain_of l.parts)) (locals_in l.parts.defs.definitions.objects)
