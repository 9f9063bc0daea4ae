use Rattle.std.proofs.Common.{List, sym, ap, subst, ◌∙◌}
use Rattle.std.specs.Map.{remove_entry, set_value, keys_of}
use Rattle.std.specs.BTreeMap.{is_at}
use Rattle.std.specs.Ordering.{eq_by_cmp}
use Rattle.std.specs.List.{IsDistinct}
use Rattle.std.specs.Str.{bytes_eq}
use Rattle.mq_queue.specs.declared.row.Row.{Row}
use Rattle.mq_shelves.specs.declared.rack.Stand.{Stand}
use Rattle.mq_shelves.specs.Racks.{stand_cmp}
use Rattle.mq_shelves.specs.Slots.{born_of}
use Rattle.mq_shelves.proofs.SlotLaws.{there, none_seen, slots_now, names_now, now_set, same_rows, names_stay}
use Rattle.mq_shelves.proofs.slots.Racks.take.Goals as goal

pub invariant_of-self : goal.invariant_of-self
invariant_of-self c =
    let t = there (born_of c.self.inside.born) c.self.inside.next c.args.name.now c.in-Some.place c.self.inside.slots.entries (sym c.in-Some.ensures) in
    slots_now (born_of c.self.inside.born) c.self.inside.next c.args.name.now c.in-Some.place c.self.inside.slots.entries c.args.self.now c.self.invariant c.self.view_is t c.take_in.new.slots.entries (remove_entry (is_at (stand_cmp c.args.stand.now)) t.1.slot.rack, c.take_in.ensures.slots t.1.slot t.1.found)

pub returns-in-Some-clause-racks : goal.returns-in-Some-clause-racks
returns-in-Some-clause-racks c = λ es h.
    let t = there (born_of c.self.inside.born) c.self.inside.next c.args.name.now c.in-Some.place c.self.inside.slots.entries (sym c.in-Some.ensures) in
    now_set (born_of c.self.inside.born) c.self.inside.next c.args.name.now c.in-Some.place c.self.inside.slots.entries c.args.self.now c.self.invariant c.self.view_is t c.take_in.new.slots.entries (remove_entry (is_at (stand_cmp c.args.stand.now)) t.1.slot.rack) (c.take_in.ensures.slots t.1.slot t.1.found)
    ∙ ap (λ (rs : List (Stand × Row)). set_value (bytes_eq c.args.name.now) c.args.self.now (remove_entry (is_at (stand_cmp c.args.stand.now)) rs)) (same_rows (born_of c.self.inside.born) c.self.inside.next c.args.name.now c.in-Some.place c.self.inside.slots.entries c.args.self.now c.self.invariant c.self.view_is t es h)

pub returns-in-Some-clause-apart : goal.returns-in-Some-clause-apart
returns-in-Some-clause-apart c = λ es h.
    let t = there (born_of c.self.inside.born) c.self.inside.next c.args.name.now c.in-Some.place c.self.inside.slots.entries (sym c.in-Some.ensures) in
    subst (λ (rs : List (Stand × Row)). IsDistinct (eq_by_cmp stand_cmp) (keys_of (remove_entry (is_at (stand_cmp c.args.stand.now)) rs))) (same_rows (born_of c.self.inside.born) c.self.inside.next c.args.name.now c.in-Some.place c.self.inside.slots.entries c.args.self.now c.self.invariant c.self.view_is t es h) (c.take_in.ensures.apart t.1.slot t.1.found)

pub returns-in-Some-clause-named : goal.returns-in-Some-clause-named
returns-in-Some-clause-named c =
    let t = there (born_of c.self.inside.born) c.self.inside.next c.args.name.now c.in-Some.place c.self.inside.slots.entries (sym c.in-Some.ensures) in
    names_now (born_of c.self.inside.born) c.self.inside.next c.args.name.now c.in-Some.place c.self.inside.slots.entries c.args.self.now c.self.invariant c.self.view_is t c.take_in.new.slots.entries (remove_entry (is_at (stand_cmp c.args.stand.now)) t.1.slot.rack, c.take_in.ensures.slots t.1.slot t.1.found)

pub returns-in_default-clause-racks : goal.returns-in_default-clause-racks
returns-in_default-clause-racks c = λ es h. absurd (cc (h, none_seen (born_of c.self.inside.born) c.self.inside.next c.args.name.now c.self.inside.slots.entries c.args.self.now c.self.invariant c.self.view_is (sym c.in_default.ensures)))

pub returns-in_default-clause-apart : goal.returns-in_default-clause-apart
returns-in_default-clause-apart c = λ es h. absurd (cc (h, none_seen (born_of c.self.inside.born) c.self.inside.next c.args.name.now c.self.inside.slots.entries c.args.self.now c.self.invariant c.self.view_is (sym c.in_default.ensures)))

pub returns-in_default-clause-named : goal.returns-in_default-clause-named
returns-in_default-clause-named c = names_stay (born_of c.self.inside.born) c.self.inside.next c.self.inside.slots.entries c.args.self.now c.self.invariant c.self.view_is
