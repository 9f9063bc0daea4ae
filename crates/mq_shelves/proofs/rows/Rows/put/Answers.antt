use Rattle.std.proofs.Common.{◌≡◌, List, true, false, ◌<◌, sym, ap, subst, ◌∙◌, arith}
use Rattle.mq_calls.specs.declared.image.Shelf.{Shelf}
use Rattle.mq_calls.specs.Changes.{new_row}
use Rattle.mq_calls.specs.Images.{uncounted_message}
use Rattle.mq_spec_log.specs.Shelves.{shelf_in, set_shelf, shelved_in}
use Rattle.mq_shelves.specs.declared.rack.Stand.{Stand}
use Rattle.mq_shelves.specs.Spots.{spot_of}
use Rattle.mq_shelves.specs.Racks.{shelves_of, any_row, AreRacks}
use Rattle.mq_shelves.proofs.RackLaws.{racks_noted, racks_more, racks_as, message_put, new_stands}
use Rattle.mq_shelves.proofs.rows.Rows.put.Goals as goal

pub invariant_of-self-in_err-put : goal.invariant_of-self-in_err-put
invariant_of-self-in_err-put c =
    let rs = c.self.inside.racks in
    let more : c.self.inside.next < c.in-Some.next = grind arith in
    let lacks : any_row (λ n row. true) c.args.message.ident (shelves_of rs) ≡ false = subst (λ (v : List Shelf). any_row (λ n row. true) c.args.message.ident v ≡ false) (sym c.self.view_is) c.requires in
    let place : Stand = record { lane = c.args.lane; arrival = c.self.inside.next } in
    let noted = c.in_ok-note_spot.ensures.ok in
    let were : AreRacks (spot_of c.note_spot.new.spots) c.in-Some.next rs =
    racks_noted (spot_of c.self.inside.spots) c.self.inside.next (spot_of c.note_spot.new.spots) c.args.message.ident (record { queue = c.args.queue.now; stand = place }) noted c.in-Some.next (omega (arith, more)) rs lacks c.self.invariant in
    racks_as (spot_of c.note_spot.new.spots) c.in-Some.next rs c.put.new.self were c.in_err-put.ensures.err

pub invariant_of-self-2 : goal.invariant_of-self-2
invariant_of-self-2 c =
    let rs = c.self.inside.racks in
    let more : c.self.inside.next < c.in-Some.next = grind arith in
    let lacks : any_row (λ n row. true) c.args.message.ident (shelves_of rs) ≡ false = subst (λ (v : List Shelf). any_row (λ n row. true) c.args.message.ident v ≡ false) (sym c.self.view_is) c.requires in
    let place : Stand = record { lane = c.args.lane; arrival = c.self.inside.next } in
    let noted = c.in_ok-note_spot.ensures.ok in
    let were : AreRacks (spot_of c.note_spot.new.spots) c.in-Some.next rs =
    racks_noted (spot_of c.self.inside.spots) c.self.inside.next (spot_of c.note_spot.new.spots) c.args.message.ident (record { queue = c.args.queue.now; stand = place }) noted c.in-Some.next (omega (arith, more)) rs lacks c.self.invariant in
    racks_more (spot_of c.note_spot.new.spots) c.in-Some.next c.args.queue.now place (new_row c.args.lane 0 (uncounted_message c.args.message))
    (new_stands (spot_of c.note_spot.new.spots) (spot_of c.self.inside.spots) c.self.inside.next c.in-Some.next c.args.lane c.args.queue.now c.args.message noted more) rs c.put.new.self c.in_ok-put.ensures.named c.in_ok-put.ensures.ok c.in_ok-put.ensures.apart were

pub returns-clause-ok : goal.returns-clause-ok
returns-clause-ok c =
    message_put (spot_of c.self.inside.spots) c.self.inside.next c.args.lane c.args.queue.now c.args.message c.self.inside.racks c.put.new.self c.self.invariant.each c.in_ok-put.ensures.ok
    ∙ ap (λ (v : List Shelf). set_shelf (shelved_in c.args.lane c.args.message (shelf_in c.args.queue.now v)) v) c.self.view_is
