use Rattle.std.proofs.Common.{sym}
use Rattle.mq_shelves.specs.Slots.{born_of}
use Rattle.mq_shelves.proofs.SlotLaws.{there, none_seen, slots_now, names_now, now_named}
use Rattle.mq_shelves.proofs.slots.Racks.set.Goals as goal

pub invariant_of-self : goal.invariant_of-self
invariant_of-self c =
    let t = there (born_of c.self.inside.born) c.self.inside.next c.args.name.now c.in-Some.place c.self.inside.slots.entries (sym c.in-Some.ensures) in
    slots_now (born_of c.self.inside.born) c.self.inside.next c.args.name.now c.in-Some.place c.self.inside.slots.entries c.args.self.now c.self.invariant c.self.view_is t c.renew_in.new.slots.entries (c.args.rack, c.renew_in.ensures t.1.slot t.1.found)

pub returns-in-Some-clause-ok : goal.returns-in-Some-clause-ok
returns-in-Some-clause-ok c =
    let t = there (born_of c.self.inside.born) c.self.inside.next c.args.name.now c.in-Some.place c.self.inside.slots.entries (sym c.in-Some.ensures) in
    now_named (born_of c.self.inside.born) c.self.inside.next c.args.name.now c.in-Some.place c.self.inside.slots.entries c.args.self.now c.self.invariant c.self.view_is t c.renew_in.new.slots.entries c.args.rack (c.renew_in.ensures t.1.slot t.1.found)

pub returns-in-Some-clause-named : goal.returns-in-Some-clause-named
returns-in-Some-clause-named c =
    let t = there (born_of c.self.inside.born) c.self.inside.next c.args.name.now c.in-Some.place c.self.inside.slots.entries (sym c.in-Some.ensures) in
    names_now (born_of c.self.inside.born) c.self.inside.next c.args.name.now c.in-Some.place c.self.inside.slots.entries c.args.self.now c.self.invariant c.self.view_is t c.renew_in.new.slots.entries (c.args.rack, c.renew_in.ensures t.1.slot t.1.found)

pub add-requires : goal.add-requires
add-requires c = none_seen (born_of c.self.inside.born) c.self.inside.next c.args.name.now c.self.inside.slots.entries c.args.self.now c.self.invariant c.self.view_is (sym c.in-None.ensures)
