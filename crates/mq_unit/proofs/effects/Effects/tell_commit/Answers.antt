use Rattle.std.proofs.Common.{ap, arith}
use Rattle.mq_unit.specs.Told.{Telling}
use Rattle.mq_unit.proofs.UnitLaws.{tell_both, commit_fits}
use Rattle.mq_unit.proofs.effects.Effects.tell_commit.Goals as goal

pub tell_all_removed-requires : goal.tell_all_removed-requires
tell_all_removed-requires c = let all = commit_fits c.args.unit.now in let room = c.requires in omega (arith, all, room)

pub tell_all_placed-requires : goal.tell_all_placed-requires
tell_all_placed-requires c =
    let all = commit_fits c.args.unit.now in
    let less = ap (λ (t : Telling). t.room) c.tell_all_removed.ensures in
    let room = c.requires in
    omega (arith, all, less, room)

pub returns : goal.returns
returns c = tell_both _ _ _ _ _ c.tell_all_removed.ensures c.tell_all_placed.ensures
