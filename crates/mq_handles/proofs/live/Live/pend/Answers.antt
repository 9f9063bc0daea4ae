use Rattle.std.proofs.Common.{◌∙◌, sym, ap, subst}
use Rattle.std.specs.Prelude.{List, IfSome, position, slice_get, slice_set}
use Rattle.mq_calls.specs.Words.{change_connection}
use Rattle.mq_calls.specs.declared.state.Connection.{Connection}
use Rattle.mq_handles.specs.Rising.{has_number}
use Rattle.mq_handles.specs.Seats.{pended}
use Rattle.std.specs.Prelude.{◌+◌, ◌<◌, ◌++◌, ◌∷◌, []}
use Rattle.mq_calls.specs.Words.{unit_need}
use Rattle.mq_handles.specs.Users.{tally, handle_weight, weight_of}
use Rattle.mq_handles.specs.Desks.{Desk}
use Rattle.mq_handles.proofs.OutcomeLaws.{on_ok, on_err, either_way}
use Rattle.mq_handles.proofs.DeskLaws.{at_get, changed_at, changed_none, set_same, desk_put}
use Rattle.mq_handles.proofs.live.Live.pend.Goals as goal

pub pend-requires : goal.pend-requires
pend-requires c =
    let found = at_get c.args.number c.args.self.now.live c.in-Some.at (sym c.place_of.ensures ∙ c.in-Some.is) ∙ ap (λ (d : Desk). slice_get d.live c.in-Some.at) (sym c.self.view_is) ∙ c.at_mut.ensures.value in
    subst (λ o. IfSome o (λ (d : Connection). unit_need (d.unit ++ c.args.item ∷ []) < 18446744073709551616)) found c.requires

pub invariant_of-self : goal.invariant_of-self
invariant_of-self c =
    either_way c.pend.result
    (λ e. desk_put c.self.inside.live c.self.inside.last c.self.inside.users c.self.inside.users c.in-Some.at c.at_mut.result.now c.pend.new.self c.at_mut.ensures.value
    (ap (λ (d : Connection). d.number) e) (λ key. ap (λ (d : Connection). tally key c.self.inside.users + weight_of (handle_weight key) d.handles) (sym e)) c.self.invariant)
    (λ e. desk_put c.self.inside.live c.self.inside.last c.self.inside.users c.self.inside.users c.in-Some.at c.at_mut.result.now c.pend.new.self c.at_mut.ensures.value
    (ap (λ (d : Connection). d.number) e) (λ key. ap (λ (d : Connection). tally key c.self.inside.users + weight_of (handle_weight key) d.handles) (sym e)) c.self.invariant)
    c.pend.ensures.ok c.pend.ensures.err

pub returns-in-None-clause-live : goal.returns-in-None-clause-live
returns-in-None-clause-live c = sym (changed_none c.args.number (pended c.args.item) c.args.self.now.live (sym c.place_of.ensures ∙ c.in-None.is))

pub returns-in-Some-clause-live : goal.returns-in-Some-clause-live
returns-in-Some-clause-live c =
    let live = ap (λ (d : Desk). d.live) c.self.view_is in
    let place = ap (position (has_number c.args.number)) live ∙ sym c.place_of.ensures ∙ c.in-Some.is in
    let old = c.at_mut.result.now in
    on_ok c.pend.result (λ e. ap (slice_set c.self.inside.live c.in-Some.at) e ∙ changed_at c.args.number (pended c.args.item) c.self.inside.live c.in-Some.at old place c.at_mut.ensures.value
    ∙ ap (change_connection c.args.number (pended c.args.item)) live) c.pend.ensures.ok

pub returns-in-Some-clause-err : goal.returns-in-Some-clause-err
returns-in-Some-clause-err c =
    let old = c.at_mut.result.now in
    on_err c.pend.result (λ e. ap (λ (cs : List Connection). let d : Desk = record { live = cs; last = c.self.inside.last } in d) (ap (slice_set c.self.inside.live c.in-Some.at) e ∙ set_same c.self.inside.live c.in-Some.at old c.at_mut.ensures.value) ∙ c.self.view_is) c.pend.ensures.err
