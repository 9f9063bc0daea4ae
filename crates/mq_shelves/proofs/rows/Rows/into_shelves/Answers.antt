use Rattle.std.proofs.Common.{List, ◌++◌, ap, ◌∙◌}
use Rattle.mq_calls.specs.declared.image.Shelf.{Shelf}
use Rattle.mq_shelves.specs.Racks.{shelves_of}
use Rattle.mq_shelves.specs.Slots.{slot_entries}
use Rattle.mq_shelves.proofs.TellLaws.{shelf_told, all_told}
use Rattle.mq_shelves.proofs.rows.Rows.into_shelves.Goals as goal

pub loop-slot-preserved : goal.loop-slot-preserved
loop-slot-preserved c =
    ap (λ (x : List Shelf). x ++ shelves_of (slot_entries c.pop_first.new.self.entries)) c.in_ok-push.ensures.items
    ∙ shelf_told c.loop-slot.left.entries c.pop_first.new.self.entries _ c.in_ok-rows.rows c.loop-slot.shelves.items c.args.self c.loop-slot.invariant c.in-Some.ensures.removal c.in_ok-rows.ensures

pub returns : goal.returns
returns c = c.from_vec.ensures ∙ all_told c.loop-slot.left.entries c.loop-slot.shelves.items c.args.self c.loop-slot.invariant (λ more. cc (c.in_default.ensures.variant.1 more))
