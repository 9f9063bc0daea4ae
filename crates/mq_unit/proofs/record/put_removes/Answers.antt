use Rattle.std.proofs.Common.{refl}
use Rattle.mq_unit.proofs.UnitLaws.{remove_fits, remove_put}
use Rattle.mq_unit.proofs.record.put_removes.Goals as goal

pub loop-item-init : goal.loop-item-init
loop-item-init c = record { bytes = refl; room = c.requires; removes = λ all. all }

pub put_if_remove-requires : goal.put_if_remove-requires
put_if_remove-requires c = remove_fits _ _ _ _ _ c.loop-item-test.true c.item-item.is c.loop-item.invariant

pub loop-item-preserved : goal.loop-item-preserved
loop-item-preserved c = remove_put _ _ _ _ _ _ c.loop-item-test.true c.item-item.is c.put_if_remove.ensures.bytes c.put_if_remove.ensures.remove c.loop-item.invariant
