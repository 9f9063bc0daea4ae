use Rattle.std.proofs.Common.{refl}
use Rattle.mq_get.proofs.LoopLaws.{put_fits, put_next}
use Rattle.mq_get.proofs.leaving.put_removes.Goals as goal

pub loop-remove-init : goal.loop-remove-init
loop-remove-init c = record { bytes = refl; room = c.requires; removes = λ all. all }

pub put_remove-requires : goal.put_remove-requires
put_remove-requires c = put_fits _ _ _ _ _ c.loop-remove-test.true c.remove-item.is c.loop-remove.invariant

pub loop-remove-preserved : goal.loop-remove-preserved
loop-remove-preserved c = put_next _ _ _ _ _ _ c.loop-remove-test.true c.remove-item.is c.put_remove.ensures.bytes c.put_remove.ensures.remove c.loop-remove.invariant
