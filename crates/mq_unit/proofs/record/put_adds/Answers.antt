use Rattle.std.proofs.Common.{refl}
use Rattle.mq_unit.proofs.UnitLaws.{add_fits, add_put}
use Rattle.mq_unit.proofs.record.put_adds.Goals as goal

pub loop-item-init : goal.loop-item-init
loop-item-init c = record { bytes = refl; room = c.requires.room; can = c.requires.can; adds = λ all. all }

pub put_if_add-requires : goal.put_if_add-requires
put_if_add-requires c =
    let fits = add_fits _ _ _ _ _ c.loop-item-test.true c.item-item.is c.loop-item.invariant in
    record { room = fits.0; can = fits.1 }

pub loop-item-preserved : goal.loop-item-preserved
loop-item-preserved c = add_put _ _ _ _ _ _ c.loop-item-test.true c.item-item.is c.put_if_add.ensures.bytes c.put_if_add.ensures.add c.loop-item.invariant
