use Rattle.std.proofs.Common.{◌≡◌, ◌++◌, ◌∙◌, length, take, drop, sym, ap, subst, arith}
use Rattle.std.specs.Prelude.{List, map}
use Rattle.mq_calls.specs.Words.{stale_if, has_step}
use Rattle.mq_calls.specs.declared.state.Handle.{Handle}
use Rattle.mq_handles.specs.Seats.{HasHandles}
use Rattle.mq_handles.proofs.SeatLaws.{front_of, map_long, stale_number, handles_mapped}
use Rattle.mq_handles.proofs.seat.Seat.make_stale.Goals as goal

pub invariant_of-self : goal.invariant_of-self
invariant_of-self c =
    let old : List Handle = c.self.inside.handles.items in
    let new : List Handle = c.stale_all.new.handles in
    let is = c.stale_all.ensures ∙ ap (map (λ (h : Handle). stale_if (has_step c.args.step.now h) h)) c.deref_mut.ensures.value in
    let long = ap (λ (l : List Handle). length l) is ∙ map_long (λ (h : Handle). stale_if (has_step c.args.step.now h) h) old in
    let len = c.self.inside.handles.ok.0 in
    let whole : length new ≡ c.self.inside.handles.len = omega (arith, long, len) in
    let front = ap (λ n. take n (new ++ drop (length new) old)) (sym whole) ∙ front_of new (drop (length new) old) ∙ is in
    subst (λ (l : List Handle). HasHandles l c.self.inside.last_handle) (sym front) (handles_mapped (λ (h : Handle). stale_if (has_step c.args.step.now h) h) (stale_number c.args.step.now) old c.self.inside.last_handle c.self.invariant)
