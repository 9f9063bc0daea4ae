use Rattle.std.proofs.Common.{◌≡◌, ◌<◌, ◌++◌, List, length, take, drop, ap, ◌∙◌, arith}
use Rattle.std.specs.Prelude.{map}
use Rattle.mq_calls.specs.Words.{made_stale}
use Rattle.mq_calls.specs.declared.state.Connection.{Connection}
use Rattle.mq_base.proofs.MapLaws.{mapped_next, mapped_all, mapped_long}
use Rattle.mq_handles.proofs.live.stale_seats.Goals as goal

pub at_mut-requires : goal.at_mut-requires
at_mut-requires c =
    let long = ap (λ (cs : List Connection). length cs) c.loop-at.invariant ∙ mapped_long (made_stale c.args.step.now) c.args.seats.now c.loop-at.at in
    let lt = c.loop-at-test.true in
    let len = c.len-at-end.ensures in
    omega (arith, long, lt, len)

pub loop-at-preserved : goal.loop-at-preserved
loop-at-preserved c =
    let lt = c.loop-at-test.true in
    let len = c.len-at-end.ensures in
    let within : c.loop-at.at < length c.args.seats.now = omega (arith, lt, len) in
    mapped_next (made_stale c.args.step.now) c.args.seats.now c.loop-at.seats c.loop-at.at c.at_mut.result.now c.make_stale.new.self c.loop-at.invariant within c.at_mut.ensures.value c.make_stale.ensures

pub returns : goal.returns
returns c =
    let past = c.loop-at-test.false in
    let within = c.loop-at.auto.at-end in
    let len = c.len-at-end.ensures in
    let end : c.loop-at.at ≡ length c.args.seats.now = omega (arith, past, within, len) in
    c.loop-at.invariant ∙ ap (λ n. map (made_stale c.args.step.now) (take n c.args.seats.now) ++ drop n c.args.seats.now) end ∙ mapped_all (made_stale c.args.step.now) c.args.seats.now
