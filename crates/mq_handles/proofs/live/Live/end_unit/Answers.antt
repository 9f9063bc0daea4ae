use Rattle.std.proofs.Common.{◌∙◌, sym, ap, subst}
use Rattle.std.specs.Prelude.{IsSome, position, slice_get, slice_set}
use Rattle.mq_calls.specs.Words.{change_connection}
use Rattle.mq_calls.specs.declared.state.Connection.{Connection}
use Rattle.mq_handles.specs.Rising.{has_number}
use Rattle.mq_handles.specs.Seats.{emptied}
use Rattle.std.specs.Prelude.{◌+◌}
use Rattle.mq_unit.specs.Forced.{IsEnded}
use Rattle.mq_handles.specs.Users.{tally, handle_weight, weight_of}
use Rattle.mq_handles.specs.Desks.{Desk}
use Rattle.mq_handles.proofs.OutcomeLaws.{some_of}
use Rattle.mq_handles.proofs.DeskLaws.{at_none, at_get, changed_at, desk_put}
use Rattle.mq_handles.proofs.live.Live.end_unit.Goals as goal

pub unreachable-requires : goal.unreachable-requires
unreachable-requires c = let e = subst (λ o. IsSome o) (at_none c.args.number c.args.self.now.live (sym c.place_of.ensures ∙ c.in-None.is)) c.requires in cc

pub invariant_of-self : goal.invariant_of-self
invariant_of-self c = desk_put c.self.inside.live c.self.inside.last c.self.inside.users c.self.inside.users c.in-Some.at c.at_mut.result.now c.end_unit.new.self c.at_mut.ensures.value
    (ap (λ (d : Connection). d.number) c.end_unit.ensures.seat) (λ key. ap (λ (d : Connection). tally key c.self.inside.users + weight_of (handle_weight key) d.handles) (sym c.end_unit.ensures.seat)) c.self.invariant

pub returns-clause-live : goal.returns-clause-live
returns-clause-live c =
    let live = ap (λ (d : Desk). d.live) c.self.view_is in
    let place = ap (position (has_number c.args.number)) live ∙ sym c.place_of.ensures ∙ c.in-Some.is in
    let old = c.at_mut.result.now in
    ap (slice_set c.self.inside.live c.in-Some.at) c.end_unit.ensures.seat ∙ changed_at c.args.number emptied c.self.inside.live c.in-Some.at old place c.at_mut.ensures.value
    ∙ ap (change_connection c.args.number emptied) live

pub returns-clause-ended : goal.returns-clause-ended
returns-clause-ended c =
    let found = at_get c.args.number c.args.self.now.live c.in-Some.at (sym c.place_of.ensures ∙ c.in-Some.is) ∙ ap (λ (d : Desk). slice_get d.live c.in-Some.at) (sym c.self.view_is) ∙ c.at_mut.ensures.value in
    some_of (λ (d : Connection). IsEnded d.unit c.end_unit.result) _ c.at_mut.result.now found c.end_unit.ensures.ended
