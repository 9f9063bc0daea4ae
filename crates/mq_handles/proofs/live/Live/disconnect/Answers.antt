use Rattle.std.proofs.Common.{◌+◌, ◌∙◌, sym, ap, subst}
use Rattle.std.specs.Prelude.{List, ◌==◌, not, filter, position}
use Rattle.mq_calls.specs.declared.state.Connection.{Connection}
use Rattle.mq_calls.specs.declared.state.Handle.{Handle}
use Rattle.mq_handles.specs.Rising.{connection_number, has_number}
use Rattle.mq_handles.specs.Users.{tally, weight_of, handle_weight, IsPartOf}
use Rattle.mq_handles.specs.Desks.{Desk, IsDesk}
use Rattle.mq_handles.proofs.SeatLaws.{none_goes, one_goes}
use Rattle.mq_handles.proofs.DeskLaws.{part_at, desk_gone}
use Rattle.mq_handles.proofs.live.Live.disconnect.Goals as goal

pub take_all-requires : goal.take_all-requires
take_all-requires c =
    subst (λ (hs : List Handle). IsPartOf hs c.self.inside.users) (sym c.handles.ensures) (part_at c.self.inside.live c.self.inside.last c.self.inside.users c.in-Some.at c.remove-seat.result c.remove-seat.ensures.value c.self.invariant)

pub invariant_of-self : goal.invariant_of-self
invariant_of-self c =
    let live = ap (λ (d : Desk). d.live) c.self.view_is in
    let place = ap (position (has_number c.args.number)) live ∙ sym c.place_of.ensures ∙ c.in-Some.is in
    subst (λ (cs : List Connection). IsDesk cs c.self.inside.last c.take_all.new.self) (sym c.remove-seat.ensures.rest)
    (desk_gone c.self.inside.live c.self.inside.last c.args.number c.self.inside.users c.take_all.new.self c.in-Some.at c.remove-seat.result place c.remove-seat.ensures.value
    (λ key. c.take_all.ensures key ∙ ap (λ (hs : List Handle). tally key c.take_all.new.self + weight_of (handle_weight key) hs) c.handles.ensures) c.self.invariant)

pub returns-in-None-clause-live : goal.returns-in-None-clause-live
returns-in-None-clause-live c = sym (none_goes connection_number c.args.number c.args.self.now.live (sym c.place_of.ensures ∙ c.in-None.is))

pub returns-in-Some-clause-live : goal.returns-in-Some-clause-live
returns-in-Some-clause-live c =
    let live = ap (λ (d : Desk). d.live) c.self.view_is in
    let place = ap (position (has_number c.args.number)) live ∙ sym c.place_of.ensures ∙ c.in-Some.is in
    c.remove-seat.ensures.rest ∙ one_goes connection_number c.args.number c.self.inside.live c.in-Some.at c.self.invariant.rising place
    ∙ ap (filter (λ (d : Connection). not (d.number == c.args.number))) live
