use Rattle.std.proofs.Common.{◌∙◌, sym, ap}
use Rattle.std.specs.Prelude.{◌+◌, position, slice_set}
use Rattle.mq_calls.specs.Words.{change_connection}
use Rattle.mq_calls.specs.declared.state.Connection.{Connection}
use Rattle.mq_handles.specs.Rising.{has_number}
use Rattle.mq_handles.specs.Seats.{given_up}
use Rattle.mq_handles.specs.Users.{tally, handle_weight, weight_of}
use Rattle.mq_handles.specs.Desks.{Desk}
use Rattle.mq_handles.proofs.DeskLaws.{changed_at, changed_none, desk_put}
use Rattle.mq_handles.proofs.live.Live.give_up.Goals as goal

pub invariant_of-self : goal.invariant_of-self
invariant_of-self c = desk_put c.self.inside.live c.self.inside.last c.self.inside.users c.self.inside.users c.in-Some.at c.at_mut.result.now c.give_up.new.self c.at_mut.ensures.value
    (ap (λ (d : Connection). d.number) c.give_up.ensures) (λ key. ap (λ (d : Connection). tally key c.self.inside.users + weight_of (handle_weight key) d.handles) (sym c.give_up.ensures)) c.self.invariant

pub returns-in-None-clause-live : goal.returns-in-None-clause-live
returns-in-None-clause-live c = sym (changed_none c.args.number given_up c.args.self.now.live (sym c.place_of.ensures ∙ c.in-None.is))

pub returns-in-Some-clause-live : goal.returns-in-Some-clause-live
returns-in-Some-clause-live c =
    let live = ap (λ (d : Desk). d.live) c.self.view_is in
    let place = ap (position (has_number c.args.number)) live ∙ sym c.place_of.ensures ∙ c.in-Some.is in
    let old = c.at_mut.result.now in
    ap (slice_set c.self.inside.live c.in-Some.at) c.give_up.ensures ∙ changed_at c.args.number given_up c.self.inside.live c.in-Some.at old place c.at_mut.ensures.value
    ∙ ap (change_connection c.args.number given_up) live
