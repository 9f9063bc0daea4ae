use Rattle.std.proofs.Common.{List, Option, sym, ap, subst, ◌∙◌}
use Rattle.std.specs.Map.{keys_of}
use Rattle.std.specs.BTreeMap.{insert_entry}
use Rattle.std.specs.Ordering.{eq_by_cmp}
use Rattle.std.specs.List.{IsDistinct}
use Rattle.std.specs.Str.{bytes_eq}
use Rattle.std.proofs.lemmas.Result.{on_ok_weaker, on_err_weaker}
use Rattle.indexmap.specs.IndexMap.{insert_entry as named_entry}
use Rattle.mq_queue.specs.declared.row.Row.{Row}
use Rattle.mq_shelves.specs.declared.rack.Stand.{Stand}
use Rattle.mq_shelves.specs.Racks.{stand_cmp, or_nothing}
use Rattle.mq_shelves.specs.Slots.{born_of, slot_entries}
use Rattle.mq_shelves.proofs.SlotLaws.{there, none_seen, slots_now, names_now, now_named, rows_seen}
use Rattle.mq_shelves.proofs.slots.Racks.put.Goals as goal

pub invariant_of-self : goal.invariant_of-self
invariant_of-self c =
    let t = there (born_of c.self.inside.born) c.self.inside.next c.args.name.now c.in-Some.place c.self.inside.slots.entries (sym c.in-Some.ensures) in
    slots_now (born_of c.self.inside.born) c.self.inside.next c.args.name.now c.in-Some.place c.self.inside.slots.entries c.args.self.now c.self.invariant c.self.view_is t c.put_in.new.slots.entries (c.put_in.ensures.kept t.1.slot t.1.found)

pub returns-in-Some-clause-ok : goal.returns-in-Some-clause-ok
returns-in-Some-clause-ok c =
    let t = there (born_of c.self.inside.born) c.self.inside.next c.args.name.now c.in-Some.place c.self.inside.slots.entries (sym c.in-Some.ensures) in
    on_ok_weaker c.put_in.result (λ is.
    now_named (born_of c.self.inside.born) c.self.inside.next c.args.name.now c.in-Some.place c.self.inside.slots.entries c.args.self.now c.self.invariant c.self.view_is t c.put_in.new.slots.entries (insert_entry stand_cmp t.1.slot.rack c.args.stand c.args.row) is
    ∙ ap (λ (o : Option (List (Stand × Row))). named_entry bytes_eq c.args.self.now c.args.name.now (insert_entry stand_cmp (or_nothing o) c.args.stand c.args.row)) (sym (rows_seen (born_of c.self.inside.born) c.self.inside.next c.args.name.now c.in-Some.place c.self.inside.slots.entries c.args.self.now c.self.invariant c.self.view_is t)))
    (c.put_in.ensures.slots t.1.slot t.1.found)

pub returns-in-Some-clause-apart : goal.returns-in-Some-clause-apart
returns-in-Some-clause-apart c =
    let t = there (born_of c.self.inside.born) c.self.inside.next c.args.name.now c.in-Some.place c.self.inside.slots.entries (sym c.in-Some.ensures) in
    on_ok_weaker c.put_in.result (λ apart.
    subst (λ (o : Option (List (Stand × Row))). IsDistinct (eq_by_cmp stand_cmp) (keys_of (insert_entry stand_cmp (or_nothing o) c.args.stand c.args.row))) (sym (rows_seen (born_of c.self.inside.born) c.self.inside.next c.args.name.now c.in-Some.place c.self.inside.slots.entries c.args.self.now c.self.invariant c.self.view_is t)) apart)
    (c.put_in.ensures.apart t.1.slot t.1.found)

pub returns-in-Some-clause-err : goal.returns-in-Some-clause-err
returns-in-Some-clause-err c = on_err_weaker c.put_in.result (λ same. ap slot_entries same ∙ c.self.view_is) c.put_in.ensures.err

pub returns-in-Some-clause-named : goal.returns-in-Some-clause-named
returns-in-Some-clause-named c =
    let t = there (born_of c.self.inside.born) c.self.inside.next c.args.name.now c.in-Some.place c.self.inside.slots.entries (sym c.in-Some.ensures) in
    on_ok_weaker c.put_in.result (λ is. names_now (born_of c.self.inside.born) c.self.inside.next c.args.name.now c.in-Some.place c.self.inside.slots.entries c.args.self.now c.self.invariant c.self.view_is t c.put_in.new.slots.entries (c.put_in.ensures.kept t.1.slot t.1.found)) (c.put_in.ensures.slots t.1.slot t.1.found)

pub put_first-requires : goal.put_first-requires
put_first-requires c = none_seen (born_of c.self.inside.born) c.self.inside.next c.args.name.now c.self.inside.slots.entries c.args.self.now c.self.invariant c.self.view_is (sym c.in-None.ensures)

pub returns-in-None-clause-ok : goal.returns-in-None-clause-ok
returns-in-None-clause-ok c =
    let none = none_seen (born_of c.self.inside.born) c.self.inside.next c.args.name.now c.self.inside.slots.entries c.args.self.now c.self.invariant c.self.view_is (sym c.in-None.ensures) in
    on_ok_weaker c.put_first.result (λ is. is
    ∙ ap (λ (o : Option (List (Stand × Row))). named_entry bytes_eq c.args.self.now c.args.name.now (insert_entry stand_cmp (or_nothing o) c.args.stand c.args.row)) (sym none))
    c.put_first.ensures.ok

pub returns-in-None-clause-apart : goal.returns-in-None-clause-apart
returns-in-None-clause-apart c =
    let none = none_seen (born_of c.self.inside.born) c.self.inside.next c.args.name.now c.self.inside.slots.entries c.args.self.now c.self.invariant c.self.view_is (sym c.in-None.ensures) in
    on_ok_weaker c.put_first.result (λ apart.
    subst (λ (o : Option (List (Stand × Row))). IsDistinct (eq_by_cmp stand_cmp) (keys_of (insert_entry stand_cmp (or_nothing o) c.args.stand c.args.row))) (sym none) apart)
    c.put_first.ensures.apart
