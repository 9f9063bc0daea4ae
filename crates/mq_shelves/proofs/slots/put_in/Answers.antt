use Rattle.std.proofs.lemmas.Result.{on_err_weaker}
use Rattle.mq_shelves.proofs.SlotLaws.{slot_kept, slot_same}
use Rattle.mq_shelves.proofs.slots.put_in.Goals as goal

pub returns-in-Some-clause-err : goal.returns-in-Some-clause-err
returns-in-Some-clause-err c = on_err_weaker c.put.result (slot_same c.args.place c.args.slots.now.entries _ c.in-Some.slot.now c.put.new.self (c.get_mut.follows.holds (record { name = c.in-Some.slot.now.name; rack = c.put.new.self })).0 c.in-Some.ensures.value) c.put.ensures.err

pub returns-in-Some-clause-kept : goal.returns-in-Some-clause-kept
returns-in-Some-clause-kept c = slot_kept c.args.place c.args.slots.now.entries _ c.in-Some.slot.now c.put.new.self (c.get_mut.follows.holds (record { name = c.in-Some.slot.now.name; rack = c.put.new.self })).0 c.in-Some.ensures.value
