use Rattle.mq_handle.proofs.TreatLaws.{discard_ran, discard_cut, discard_want, discard_never}
use Rattle.mq_handle.proofs.treating.discard_letter.Goals as goal

pub returns-in-Done : goal.returns-in-Done
returns-in-Done g c n h =
    discard_ran c.args.queue.now c.args.ident.now n h c.args.manager.now c.discard.new.self c.discard.result _ c.tell.new.manager c.in-Done.ensures c.discard.ensures.meets
    (c.tell.ensures.choice, c.tell.ensures.reply, c.tell.ensures.delta, c.tell.ensures.after)

pub returns-in-Refused : goal.returns-in-Refused
returns-in-Refused g c n h = discard_never c.args.queue.now c.args.ident.now n h c.args.manager.now c.discard.new.self c.discard.result _ c.in-Refused.ensures

pub returns-in-NoMemory : goal.returns-in-NoMemory
returns-in-NoMemory g c n h = discard_want c.args.queue.now c.args.ident.now n h c.args.manager.now c.discard.new.self c.discard.result _ c.in-NoMemory.ensures c.discard.ensures.meets

pub returns-in-Stopped : goal.returns-in-Stopped
returns-in-Stopped g c n h =
    discard_cut c.args.queue.now c.args.ident.now n h c.args.manager.now c.discard.new.self c.discard.result c.in-Stopped.by _ c.tell-in-Stopped.new.manager c.in-Stopped.ensures c.discard.ensures.meets
    (c.tell-in-Stopped.ensures.choice, c.tell-in-Stopped.ensures.reply, c.tell-in-Stopped.ensures.delta, c.tell-in-Stopped.ensures.after)
