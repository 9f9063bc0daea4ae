use Rattle.std.proofs.Common.{◌≡◌, length}
use Rattle.mq_scn_text.specs.Sections.{commands_from}
use Rattle.mq_scn_text.proofs.sections.commands_read.Given as goal

abbrev pub invariant-reading : goal.invariant-reading
invariant-reading l = commands_from l.first l.initial.commands l.lines ≡ commands_from l.first l.commands l.rest

abbrev pub decreases-reading : goal.decreases-reading
decreases-reading l = length l.rest
