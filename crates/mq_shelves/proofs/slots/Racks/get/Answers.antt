use Rattle.std.proofs.Common.{sym, ap, ◌∙◌}
use Rattle.std.specs.Prelude.{option_map}
use Rattle.std.specs.Map.{lookup}
use Rattle.std.specs.Str.{bytes_eq}
use Rattle.mq_shelves.specs.declared.slots.Slot.{Slot}
use Rattle.mq_shelves.specs.Slots.{born_of}
use Rattle.mq_shelves.proofs.SlotLaws.{there, none_there, rack_found}
use Rattle.mq_shelves.proofs.slots.Racks.get.Goals as goal

pub returns-in-None : goal.returns-in-None
returns-in-None c =
    sym (sym (ap (lookup (bytes_eq c.args.name.now)) c.self.view_is) ∙ none_there (born_of c.self.inside.born) c.self.inside.next c.args.name.now c.self.inside.slots.entries c.self.invariant (sym c.in-None.ensures))

pub returns-in-Some : goal.returns-in-Some
returns-in-Some c =
    let t = there (born_of c.self.inside.born) c.self.inside.next c.args.name.now c.in-Some.place c.self.inside.slots.entries (sym c.in-Some.ensures) in
    c.rack_at.ensures ∙ ap (option_map (λ (s : Slot). s.rack)) t.1.found
    ∙ sym (rack_found (born_of c.self.inside.born) c.self.inside.next c.args.name.now c.in-Some.place t.0 c.self.inside.slots.entries t.1.slot c.self.invariant.each t.1.named t.1.found)
    ∙ ap (lookup (bytes_eq c.args.name.now)) c.self.view_is
