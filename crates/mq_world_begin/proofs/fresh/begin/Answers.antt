use Rattle.std.proofs.Common.{arith}
use Rattle.mq_begin.specs.Begun.{moment_or}
use Rattle.mq_disk.specs.declared.shelf.Side.TheVariants as sides
use Rattle.mq_world_begin.proofs.RestLaws.{found_at, not_begun}
use Rattle.mq_world_begin.proofs.fresh.begin.Goals as goal

pub compare-requires : goal.compare-requires
compare-requires g c = let few = c.requires.scenario.few.cables in omega (arith, few)

pub invariant_of-result : goal.invariant_of-result
invariant_of-result g c = (
  c.histories.ensures.rested,
  found_at c.in-Ok-compare.found c.args.scenario.now c.in-Ok.rested.scenario c.histories.result.now c.in-Ok.rested.histories c.in-Ok-compare.ensures c.in-Ok.ensures.told.scenario c.histories.ensures.histories,
)

pub returns-in-Err-compare : goal.returns-in-Err-compare
returns-in-Err-compare g c =
    not_begun g.H.D.Disk.tells (λ n b. g.H.Shelf.holds c.args.shelf.now n sides.A b) (moment_or c.args.scenario.now.moment c.args.start) c.args.scenario.now.managers c.in-Ok.rested.managers _ _ _ _
    c.in-Ok.ensures.told.began c.no_memory.ensures.fault c.no_memory.ensures.counts c.in-Ok.ensures.later
