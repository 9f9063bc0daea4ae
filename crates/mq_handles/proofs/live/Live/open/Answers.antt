use Rattle.std.proofs.Common.{◌≡◌, ◌∙◌, sym, ap, subst}
use Rattle.std.specs.Prelude.{List, IfSome, IsSome, position, slice_get, slice_set}
use Rattle.mq_calls.specs.Words.{change_connection}
use Rattle.mq_calls.specs.declared.state.Connection.{Connection}
use Rattle.mq_handles.specs.Rising.{has_number}
use Rattle.mq_handles.specs.Seats.{opened}
use Rattle.std.specs.Prelude.{◌+◌, ◌<◌}
use Rattle.mq_unit.specs.from_spec_manager.Handles.{new_handle}
use Rattle.mq_handles.specs.Desks.{Desk}
use Rattle.mq_handles.proofs.OutcomeLaws.{on_ok, on_err, if_ok, either_way, some_of}
use Rattle.mq_handles.proofs.DeskLaws.{at_none, at_get, changed_at, set_same, desk_put}
use Rattle.mq_handles.proofs.live.Live.open.Goals as goal

pub unreachable-requires : goal.unreachable-requires
unreachable-requires c = let e = subst (λ o. IsSome o) (at_none c.args.number c.args.self.now.live (sym c.place_of.ensures ∙ c.in-None.is)) c.requires.live in cc

pub open-requires : goal.open-requires
open-requires c =
    let found = at_get c.args.number c.args.self.now.live c.in-Some.at (sym c.place_of.ensures ∙ c.in-Some.is) ∙ ap (λ (d : Desk). slice_get d.live c.in-Some.at) (sym c.self.view_is) ∙ c.at_mut.ensures.value in
    subst (λ o. IfSome o (λ (d : Connection). d.last_handle + 1 < 18446744073709551616)) found c.requires.count

pub invariant_of-self : goal.invariant_of-self
invariant_of-self c =
    desk_put c.self.inside.live c.self.inside.last c.self.inside.users c.open.new.users c.in-Some.at c.at_mut.result.now c.open.new.self c.at_mut.ensures.value
    (either_way c.open.result (λ e. ap (λ (d : Connection). d.number) e) (λ e. ap (λ (d : Connection). d.number) e) c.open.ensures.ok c.open.ensures.err)
    c.open.ensures.users c.self.invariant

pub returns-clause-number : goal.returns-clause-number
returns-clause-number c =
    let found = at_get c.args.number c.args.self.now.live c.in-Some.at (sym c.place_of.ensures ∙ c.in-Some.is) ∙ ap (λ (d : Desk). slice_get d.live c.in-Some.at) (sym c.self.view_is) ∙ c.at_mut.ensures.value in
    if_ok c.open.result (λ n e. some_of (λ (d : Connection). n ≡ d.last_handle + 1) _ c.at_mut.result.now found e) c.open.ensures.number

pub returns-clause-live : goal.returns-clause-live
returns-clause-live c =
    let live = ap (λ (d : Desk). d.live) c.self.view_is in
    let place = ap (position (has_number c.args.number)) live ∙ sym c.place_of.ensures ∙ c.in-Some.is in
    let old = c.at_mut.result.now in
    let found = at_get c.args.number c.args.self.now.live c.in-Some.at (sym c.place_of.ensures ∙ c.in-Some.is) ∙ ap (λ (d : Desk). slice_get d.live c.in-Some.at) (sym c.self.view_is) ∙ c.at_mut.ensures.value in
    on_ok c.open.result (λ e. some_of (λ (d : Connection). slice_set c.self.inside.live c.in-Some.at c.open.new.self ≡ change_connection c.args.number (opened (new_handle c.args.how.now c.args.route d)) c.args.self.now.live) _ old found
    (ap (slice_set c.self.inside.live c.in-Some.at) e ∙ changed_at c.args.number (opened (new_handle c.args.how.now c.args.route old)) c.self.inside.live c.in-Some.at old place c.at_mut.ensures.value
    ∙ ap (change_connection c.args.number (opened (new_handle c.args.how.now c.args.route old))) live)) c.open.ensures.ok

pub returns-clause-err : goal.returns-clause-err
returns-clause-err c =
    let old = c.at_mut.result.now in
    on_err c.open.result (λ e. ap (λ (cs : List Connection). let d : Desk = record { live = cs; last = c.self.inside.last } in d) (ap (slice_set c.self.inside.live c.in-Some.at) e ∙ set_same c.self.inside.live c.in-Some.at old c.at_mut.ensures.value) ∙ c.self.view_is) c.open.ensures.err
