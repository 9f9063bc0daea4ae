use Rattle.std.proofs.Common.{◌∙◌, sym, ap, subst, arith}
use Rattle.std.specs.Prelude.{List, ◌==◌, not, position}
use Rattle.mq_calls.specs.declared.state.Connection.{Connection}
use Rattle.mq_calls.specs.declared.state.Handle.{Handle}
use Rattle.mq_handles.specs.Rising.{handle_number, has_handle_number}
use Rattle.mq_handles.specs.Seats.{HasHandles, closed}
use Rattle.mq_handles.specs.Users.{handle_weight, weight_of}
use Rattle.mq_handles.proofs.CountLaws.{got}
use Rattle.mq_handles.proofs.WeightLaws.{weight_less}
use Rattle.mq_handles.proofs.SeatLaws.{handle_within, handles_kept, none_goes, one_goes}
use Rattle.mq_handles.proofs.seat.Seat.close.Goals as goal

pub take-requires : goal.take-requires
take-requires c = λ key.
    let same = ap (λ (k : Connection). k.handles) c.self.view_is in
    let place = ap (position (has_handle_number c.args.number)) same ∙ sym c.place_of.ensures ∙ c.in-Some.is in
    let within = handle_within c.args.number c.self.inside.handles.items c.in-Some.at place in
    let less = weight_less (handle_weight key) c.self.inside.handles.items c.in-Some.at c.index.result.now (got c.self.inside.handles.items c.in-Some.at c.index.result.now within c.index.ensures) in
    let all = c.requires key in
    let seen = ap (weight_of (handle_weight key)) same in
    omega (arith, less, all, seen)

pub invariant_of-self : goal.invariant_of-self
invariant_of-self c =
    let same = ap (λ (k : Connection). k.handles) c.self.view_is in
    let place = ap (position (has_handle_number c.args.number)) same ∙ sym c.place_of.ensures ∙ c.in-Some.is in
    let goes = c.remove.ensures.items ∙ one_goes handle_number c.args.number c.self.inside.handles.items c.in-Some.at c.self.invariant.rising place in
    subst (λ (hs : List Handle). HasHandles hs c.self.inside.last_handle) (sym goes) (handles_kept (λ (h : Handle). not (h.number == c.args.number)) c.self.inside.handles.items c.self.inside.last_handle c.self.invariant)

pub returns-in-None-clause-seat : goal.returns-in-None-clause-seat
returns-in-None-clause-seat c = ap (λ (hs : List Handle). record c.args.self.now { handles = hs }) (sym (none_goes handle_number c.args.number c.args.self.now.handles (sym c.place_of.ensures ∙ c.in-None.is)))

pub returns-in-Some-clause-seat : goal.returns-in-Some-clause-seat
returns-in-Some-clause-seat c =
    let same = ap (λ (k : Connection). k.handles) c.self.view_is in
    let place = ap (position (has_handle_number c.args.number)) same ∙ sym c.place_of.ensures ∙ c.in-Some.is in
    let goes = c.remove.ensures.items ∙ one_goes handle_number c.args.number c.self.inside.handles.items c.in-Some.at c.self.invariant.rising place in
    ap (λ (hs : List Handle). let d : Connection = record { number = c.self.inside.number; appl = c.self.inside.appl; handles = hs; last_handle = c.self.inside.last_handle; unit = c.self.inside.unit } in d) goes
    ∙ ap (closed c.args.number) c.self.view_is

pub returns-in-Some-clause-users : goal.returns-in-Some-clause-users
returns-in-Some-clause-users c = λ key.
    let same = ap (λ (k : Connection). k.handles) c.self.view_is in
    let place = ap (position (has_handle_number c.args.number)) same ∙ sym c.place_of.ensures ∙ c.in-Some.is in
    let within = handle_within c.args.number c.self.inside.handles.items c.in-Some.at place in
    let less = weight_less (handle_weight key) c.self.inside.handles.items c.in-Some.at c.index.result.now (got c.self.inside.handles.items c.in-Some.at c.index.result.now within c.index.ensures) in
    let took = c.take.ensures key in
    let left = ap (weight_of (handle_weight key)) c.remove.ensures.items in
    let seen = ap (weight_of (handle_weight key)) same in
    omega (arith, less, took, left, seen)
