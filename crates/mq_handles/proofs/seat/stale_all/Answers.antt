use Rattle.std.proofs.Common.{◌≡◌, ◌<◌, ◌++◌, length, take, drop, ap, sym, ◌∙◌, arith}
use Rattle.std.specs.Prelude.{map}
use Rattle.mq_calls.specs.Words.{stale_if, has_step}
use Rattle.mq_calls.specs.declared.state.Handle.{Handle}
use Rattle.mq_base.proofs.MapLaws.{mapped_next, mapped_all}
use Rattle.mq_handles.proofs.CountLaws.{got}
use Rattle.mq_handles.proofs.seat.stale_all.Goals as goal

pub loop-at-preserved : goal.loop-at-preserved
loop-at-preserved c =
    let long = c.loop-at.auto.handles in
    let lt = c.loop-at-test.true in
    let within : c.loop-at.at < length c.loop-at.handles = omega (arith, long, lt) in
    mapped_next (λ (h : Handle). stale_if (has_step c.args.step.now h) h) c.args.handles.now c.loop-at.handles c.loop-at.at c.index-handles-at.result c.stale_if_over.new.handle c.loop-at.invariant lt
    (got c.loop-at.handles c.loop-at.at c.index-handles-at.result within c.index-handles-at.is)
    (c.stale_if_over.ensures ∙ ap (λ (h : Handle). stale_if (has_step c.args.step.now h) h) (sym c.index-handles-at.is))

pub returns : goal.returns
returns c =
    let past = c.loop-at-test.false in
    let within = c.loop-at.auto.at-end in
    let end : c.loop-at.at ≡ length c.args.handles.now = omega (arith, past, within) in
    c.loop-at.invariant ∙ ap (λ n. map (λ (h : Handle). stale_if (has_step c.args.step.now h) h) (take n c.args.handles.now) ++ drop n c.args.handles.now) end
    ∙ mapped_all (λ (h : Handle). stale_if (has_step c.args.step.now h) h) c.args.handles.now
