use Rattle.std.proofs.Common.{sym}
use Rattle.mq_shelves.specs.Slots.{born_of}
use Rattle.mq_shelves.proofs.SlotLaws.{there, none_seen, names_apart, names_stay, none_goes, slots_less, now_gone}
use Rattle.mq_shelves.proofs.slots.Racks.drop_queue.Goals as goal

pub invariant_of-self : goal.invariant_of-self
invariant_of-self c =
    let t = there (born_of c.self.inside.born) c.self.inside.next c.args.name.now c.in-Some.place c.self.inside.slots.entries (sym c.in-Some.ensures) in
    slots_less (born_of c.self.inside.born) c.self.inside.next c.args.name.now c.in-Some.place c.self.inside.slots.entries c.args.self.now c.self.invariant c.self.view_is t c.drop_in.new.slots.entries c.drop_in.ensures.slots c.drop_in.ensures.sorted

pub returns-in-Some-clause-racks : goal.returns-in-Some-clause-racks
returns-in-Some-clause-racks c =
    let t = there (born_of c.self.inside.born) c.self.inside.next c.args.name.now c.in-Some.place c.self.inside.slots.entries (sym c.in-Some.ensures) in
    now_gone (born_of c.self.inside.born) c.self.inside.next c.args.name.now c.in-Some.place c.self.inside.slots.entries c.args.self.now c.self.invariant c.self.view_is t c.drop_in.new.slots.entries c.drop_in.ensures.slots

pub returns-in-Some-clause-named : goal.returns-in-Some-clause-named
returns-in-Some-clause-named c =
    let t = there (born_of c.self.inside.born) c.self.inside.next c.args.name.now c.in-Some.place c.self.inside.slots.entries (sym c.in-Some.ensures) in
    names_apart (born_of c.self.inside.born) c.self.inside.next c.drop_in.new.slots.entries (slots_less (born_of c.self.inside.born) c.self.inside.next c.args.name.now c.in-Some.place c.self.inside.slots.entries c.args.self.now c.self.invariant c.self.view_is t c.drop_in.new.slots.entries c.drop_in.ensures.slots c.drop_in.ensures.sorted)

pub returns-in_default-clause-racks : goal.returns-in_default-clause-racks
returns-in_default-clause-racks c = none_goes c.args.self.now c.args.name.now (none_seen (born_of c.self.inside.born) c.self.inside.next c.args.name.now c.self.inside.slots.entries c.args.self.now c.self.invariant c.self.view_is (sym c.in_default.ensures))

pub returns-in_default-clause-named : goal.returns-in_default-clause-named
returns-in_default-clause-named c = names_stay (born_of c.self.inside.born) c.self.inside.next c.self.inside.slots.entries c.args.self.now c.self.invariant c.self.view_is
