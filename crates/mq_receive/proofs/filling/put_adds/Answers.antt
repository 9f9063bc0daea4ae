use Rattle.std.proofs.Common.{refl}
use Rattle.mq_receive.proofs.FillLaws.{add_fits, add_put}
use Rattle.mq_receive.proofs.filling.put_adds.Goals as goal

pub loop-message-init : goal.loop-message-init
loop-message-init c = record { bytes = refl; room = c.requires.room; can = c.requires.can; adds = λ all. all }

pub put_if_add-requires : goal.put_if_add-requires
put_if_add-requires c =
    let fits = add_fits _ _ _ _ _ c.loop-message-test.true c.message-item.is c.loop-message.invariant in
    record { room = fits.0; can = fits.1 }

pub loop-message-preserved : goal.loop-message-preserved
loop-message-preserved c = add_put _ _ _ _ _ _ c.loop-message-test.true c.message-item.is c.put_if_add.ensures.bytes c.put_if_add.ensures.add c.loop-message.invariant
