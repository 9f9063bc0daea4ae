use Rattle.mq_story.specs.Spots.{IsFirstOf}
use Rattle.mq_story.proofs.merging.first_of.Given as goal

abbrev pub invariant-loop-manager : goal.invariant-loop-manager
invariant-loop-manager l = IsFirstOf l.histories l.heads l.manager l.first
