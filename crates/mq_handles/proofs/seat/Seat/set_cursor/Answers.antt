use Rattle.std.proofs.Common.{◌∙◌, sym, ap}
use Rattle.std.specs.Prelude.{List, position, slice_set}
use Rattle.mq_calls.specs.declared.state.Connection.{Connection}
use Rattle.mq_calls.specs.declared.state.Handle.{Handle}
use Rattle.mq_handles.specs.Rising.{has_handle_number}
use Rattle.mq_handles.specs.Seats.{at_place, cursor_set}
use Rattle.mq_handles.proofs.CountLaws.{got}
use Rattle.mq_handles.proofs.SeatLaws.{changed_handle, changed_none, handle_within, handles_put}
use Rattle.mq_handles.proofs.seat.Seat.set_cursor.Goals as goal

pub invariant_of-self : goal.invariant_of-self
invariant_of-self c =
    let same = ap (λ (k : Connection). k.handles) c.self.view_is in
    let place = ap (position (has_handle_number c.args.number)) same ∙ sym c.place_of.ensures ∙ c.in-Some.is in
    let within = handle_within c.args.number c.self.inside.handles.items c.in-Some.at place in
    handles_put c.self.inside.handles.items c.self.inside.last_handle c.in-Some.at c.index_mut.result.now c.set_cursor_of.new.handle
    (got c.self.inside.handles.items c.in-Some.at c.index_mut.result.now within c.index_mut.ensures.value) (ap (λ (h : Handle). h.number) c.set_cursor_of.ensures) c.self.invariant

pub returns-in-None : goal.returns-in-None
returns-in-None c = ap (λ (hs : List Handle). record c.args.self.now { handles = hs }) (sym (changed_none c.args.number (at_place c.args.place) c.args.self.now.handles (sym c.place_of.ensures ∙ c.in-None.is)))

pub returns-in-Some : goal.returns-in-Some
returns-in-Some c =
    let same = ap (λ (k : Connection). k.handles) c.self.view_is in
    let place = ap (position (has_handle_number c.args.number)) same ∙ sym c.place_of.ensures ∙ c.in-Some.is in
    let within = handle_within c.args.number c.self.inside.handles.items c.in-Some.at place in
    let set = ap (slice_set c.self.inside.handles.items c.in-Some.at) c.set_cursor_of.ensures ∙ changed_handle c.args.number (at_place c.args.place) c.self.inside.handles.items c.in-Some.at c.index_mut.result.now place
    (got c.self.inside.handles.items c.in-Some.at c.index_mut.result.now within c.index_mut.ensures.value) in
    ap (λ (hs : List Handle). let d : Connection = record { number = c.self.inside.number; appl = c.self.inside.appl; handles = hs; last_handle = c.self.inside.last_handle; unit = c.self.inside.unit } in d) set
    ∙ ap (cursor_set c.args.number c.args.place) c.self.view_is
