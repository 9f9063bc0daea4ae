use Rattle.std.proofs.Common.{◌+◌, ◌∙◌, false, sym, ap, subst, refl}
use Rattle.std.specs.Prelude.{List, None}
use Rattle.mq_calls.specs.declared.state.Connection.{Connection}
use Rattle.mq_calls.specs.declared.state.Handle.{Handle}
use Rattle.mq_handles.specs.Users.{IsMoved}
use Rattle.mq_handles.proofs.OutcomeLaws.{ok_of}
use Rattle.mq_handles.proofs.SeatLaws.{handles_opened}
use Rattle.mq_handles.proofs.DeskLaws.{opened_moved}
use Rattle.mq_handles.proofs.seat.Seat.open.Goals as goal

pub invariant_of-self-2 : goal.invariant_of-self-2
invariant_of-self-2 c = handles_opened _ c.self.inside.handles.items c.reserve.new.self.items c.push.new.self.items c.self.inside.last_handle c.in-Ok.ensures.items c.reserve.ensures.items refl c.self.invariant

pub returns-clause-users : goal.returns-clause-users
returns-clause-users c =
    let h : Handle = record { number = c.self.inside.last_handle + 1; how = c.args.how.now; leads = c.args.route.end; path = c.args.route.path; stale = false; cursor = None } in
    let added = ok_of c.add.result (sym c.is_err-2.ensures.value ∙ c.if-is_err-2.false) c.add.ensures.ok in
    subst (λ (hs : List Handle). IsMoved c.args.users.now c.add.new.self hs c.push.new.self.items) (ap (λ (k : Connection). k.handles) c.self.view_is)
    (opened_moved c.args.users.now c.add.new.self h c.as_slice.result.now c.self.inside.handles.items c.reserve.new.self.items c.push.new.self.items added c.as_slice.ensures.steps c.in-Ok.ensures.items c.reserve.ensures.items)
