use Rattle.std.proofs.Common.{◌<◌, ℕ, List, refl, ap, ◌∙◌, arith}
use Rattle.std.specs.Map.{lookup}
use Rattle.std.specs.Str.{bytes_eq}
use Rattle.indexmap.specs.IndexMap.{insert_entry as named_entry}
use Rattle.mq_queue.specs.declared.row.Row.{Row}
use Rattle.mq_shelves.specs.declared.rack.Stand.{Stand}
use Rattle.mq_shelves.specs.Slots.{born_of, slot_entries}
use Rattle.mq_shelves.proofs.SlotLaws.{names_apart, slots_same, slots_noted, slots_more, slot_last}
use Rattle.mq_shelves.proofs.slots.Racks.add.Goals as goal

pub invariant_of-self : goal.invariant_of-self
invariant_of-self c = slots_same (born_of c.self.inside.born) (born_of c.note_born.new.born) c.self.inside.next c.in_err-note_born.ensures.err c.self.inside.slots.entries c.self.invariant

pub invariant_of-self-in_err-insert : goal.invariant_of-self-in_err-insert
invariant_of-self-in_err-insert c =
    let more : c.self.inside.next < c.in-Some.next = grind arith in
    slots_noted (born_of c.self.inside.born) (born_of c.note_born.new.born) c.self.inside.next c.in-Some.next c.args.name.now c.in_ok-note_born.ensures.ok more c.self.inside.slots.entries c.insert.new.self.entries c.self.invariant (ap (lookup (bytes_eq c.args.name.now)) c.self.view_is ∙ c.requires) c.in_err-insert.ensures.err

pub invariant_of-self-2 : goal.invariant_of-self-2
invariant_of-self-2 c =
    let more : c.self.inside.next < c.in-Some.next = grind arith in
    slots_more (born_of c.self.inside.born) (born_of c.note_born.new.born) c.self.inside.next c.in-Some.next c.args.name.now (record { name = c.args.name.now; rack = c.args.rack }) c.in_ok-note_born.ensures.ok more refl c.self.inside.slots.entries c.insert.new.self.entries c.self.invariant (ap (lookup (bytes_eq c.args.name.now)) c.self.view_is ∙ c.requires) c.in_ok-insert.ensures.entries c.insert.ensures.ordered

pub returns-clause-ok : goal.returns-clause-ok
returns-clause-ok c =
    ap slot_entries c.in_ok-insert.ensures.entries
    ∙ slot_last (born_of c.self.inside.born) c.self.inside.next c.args.name.now (record { name = c.args.name.now; rack = c.args.rack }) c.self.inside.slots.entries c.self.invariant.each refl (ap (lookup (bytes_eq c.args.name.now)) c.self.view_is ∙ c.requires)
    ∙ ap (λ (v : List (List ℕ × List (Stand × Row))). named_entry bytes_eq v c.args.name.now c.args.rack) c.self.view_is

pub returns-clause-named : goal.returns-clause-named
returns-clause-named c =
    let more : c.self.inside.next < c.in-Some.next = grind arith in
    names_apart (born_of c.note_born.new.born) c.in-Some.next c.insert.new.self.entries
    (slots_more (born_of c.self.inside.born) (born_of c.note_born.new.born) c.self.inside.next c.in-Some.next c.args.name.now (record { name = c.args.name.now; rack = c.args.rack }) c.in_ok-note_born.ensures.ok more refl c.self.inside.slots.entries c.insert.new.self.entries c.self.invariant (ap (lookup (bytes_eq c.args.name.now)) c.self.view_is ∙ c.requires) c.in_ok-insert.ensures.entries c.insert.ensures.ordered)
