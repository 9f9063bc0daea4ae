use Rattle.mq_split.specs.Parting.{backs_of, outs_of}
use Rattle.mq_shared.specs.Sharing.{begun_with}
use Rattle.mq_shared.proofs.phasing.phase.Given as goal

abbrev pub ghosts-run : goal.ghosts-run
ghosts-run g a = record { begun = begun_with a.scenario.now a.scripts.now a.nodes.now (outs_of a.pipes.now) (backs_of a.pipes.now) }
