use Rattle.std.proofs.Common.{◌≡◌, ◌++◌, drop}
use Rattle.mq_run.specs.Leaves.{cables_stand}
use Rattle.mq_run.proofs.standing.put_cables.Given as goal

abbrev pub invariant-loop-cable : goal.invariant-loop-cable
invariant-loop-cable g l = l.cables ++ cables_stand l.rested l.cable (drop l.cable l.lines) ≡ cables_stand l.rested 0 l.lines
