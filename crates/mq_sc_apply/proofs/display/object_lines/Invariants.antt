use Rattle.std.proofs.Common.{◌≡◌, ◌++◌, drop}
use Rattle.mq_calls.specs.from_objects.Slots.{present}
use Rattle.mq_sc_apply.specs.Displayed.{lines_of}
use Rattle.mq_sc_apply.proofs.display.object_lines.Given as goal

abbrev pub invariant-loop-slot : goal.invariant-loop-slot
invariant-loop-slot g l = l.lines ++ lines_of l.command (g.U.InUse.facts l.uses) (present (drop l.slot-index l.slot-items)) ≡ lines_of l.command (g.U.InUse.facts l.uses) l.defs.definitions.objects
