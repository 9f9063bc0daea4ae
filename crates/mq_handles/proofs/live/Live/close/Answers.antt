use Rattle.std.proofs.Common.{◌∙◌, sym, ap}
use Rattle.std.specs.Prelude.{position, slice_set}
use Rattle.mq_calls.specs.Words.{change_connection}
use Rattle.mq_calls.specs.declared.state.Connection.{Connection}
use Rattle.mq_handles.specs.Rising.{has_number}
use Rattle.mq_handles.specs.Seats.{closed}
use Rattle.mq_handles.specs.Desks.{Desk}
use Rattle.mq_handles.proofs.DeskLaws.{changed_at, changed_none, desk_put, part_at}
use Rattle.mq_handles.proofs.live.Live.close.Goals as goal

pub invariant_of-self : goal.invariant_of-self
invariant_of-self c = desk_put c.self.inside.live c.self.inside.last c.self.inside.users c.close.new.users c.in-Some.at c.at_mut.result.now c.close.new.self c.at_mut.ensures.value
    (ap (λ (d : Connection). d.number) c.close.ensures.seat) (c.close.ensures.users) c.self.invariant

pub returns-in-None-clause-live : goal.returns-in-None-clause-live
returns-in-None-clause-live c = sym (changed_none c.args.number (closed c.args.handle) c.args.self.now.live (sym c.place_of.ensures ∙ c.in-None.is))

pub returns-in-Some-clause-live : goal.returns-in-Some-clause-live
returns-in-Some-clause-live c =
    let live = ap (λ (d : Desk). d.live) c.self.view_is in
    let place = ap (position (has_number c.args.number)) live ∙ sym c.place_of.ensures ∙ c.in-Some.is in
    let old = c.at_mut.result.now in
    ap (slice_set c.self.inside.live c.in-Some.at) c.close.ensures.seat ∙ changed_at c.args.number (closed c.args.handle) c.self.inside.live c.in-Some.at old place c.at_mut.ensures.value
    ∙ ap (change_connection c.args.number (closed c.args.handle)) live

pub close-requires : goal.close-requires
close-requires c = part_at c.self.inside.live c.self.inside.last c.self.inside.users c.in-Some.at c.at_mut.result.now c.at_mut.ensures.value c.self.invariant
