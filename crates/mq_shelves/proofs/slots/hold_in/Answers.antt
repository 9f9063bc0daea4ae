use Rattle.mq_shelves.proofs.SlotLaws.{slot_kept}
use Rattle.mq_shelves.proofs.slots.hold_in.Goals as goal

pub returns-in-Some-clause-kept : goal.returns-in-Some-clause-kept
returns-in-Some-clause-kept c = slot_kept c.args.place c.args.slots.now.entries _ c.in-Some.slot.now c.hold.new.self (c.get_mut.follows.holds (record { name = c.in-Some.slot.now.name; rack = c.hold.new.self })).0 c.in-Some.ensures.value
