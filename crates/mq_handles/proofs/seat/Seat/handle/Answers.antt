use Rattle.std.proofs.Common.{◌∙◌, sym, ap}
use Rattle.std.specs.Prelude.{Some, position}
use Rattle.mq_calls.specs.Words.{handle_at}
use Rattle.mq_calls.specs.declared.state.Connection.{Connection}
use Rattle.mq_calls.specs.declared.state.Handle.{Handle}
use Rattle.mq_handles.specs.Rising.{has_handle_number}
use Rattle.mq_handles.proofs.SeatLaws.{handle_none, handle_some}
use Rattle.mq_handles.proofs.seat.Seat.handle.Goals as goal

pub returns-in-None : goal.returns-in-None
returns-in-None c = sym (handle_none c.args.number c.args.self.now.handles (sym c.place_of.ensures ∙ c.in-None.is))

pub returns-in-Some : goal.returns-in-Some
returns-in-Some c =
    let same = ap (λ (k : Connection). k.handles) c.self.view_is in
    let place = ap (position (has_handle_number c.args.number)) same ∙ sym c.place_of.ensures ∙ c.in-Some.is in
    ap (λ (h : Handle). Some h) c.index.ensures ∙ sym (handle_some c.args.number c.self.inside.handles.items c.in-Some.at c.index.result.now place) ∙ ap (handle_at c.args.number) same
