use Rattle.std.proofs.Common.{◌≡◌, ◌<◌, ◌++◌, List, length, take, drop, ap, ◌∙◌, arith}
use Rattle.std.specs.Prelude.{map}
use Rattle.mq_spec_node.specs.Node.{Handler}
use Rattle.mq_own.specs.Views.{forgetting}
use Rattle.mq_base.proofs.MapLaws.{mapped_next, mapped_all, mapped_long}
use Rattle.mq_own.proofs.own.forget_tries.Goals as goal

pub at_mut-requires : goal.at_mut-requires
at_mut-requires c =
    let long = ap (λ (xs : List Handler). length xs) c.loop-at.invariant ∙ mapped_long (forgetting c.args.delta.now) c.args.handlers.now c.loop-at.at in
    let lt = c.loop-at-test.true in
    let len = c.len-at-end.ensures in
    omega (arith, long, lt, len)

pub loop-at-preserved : goal.loop-at-preserved
loop-at-preserved c =
    let lt = c.loop-at-test.true in
    let len = c.len-at-end.ensures in
    let within : c.loop-at.at < length c.args.handlers.now = omega (arith, lt, len) in
    mapped_next (forgetting c.args.delta.now) c.args.handlers.now c.loop-at.handlers c.loop-at.at c.at_mut.result.now c.forget.new.self c.loop-at.invariant within c.at_mut.ensures.value c.forget.ensures

pub returns : goal.returns
returns c =
    let past = c.loop-at-test.false in
    let within = c.loop-at.auto.at-end in
    let len = c.len-at-end.ensures in
    let end : c.loop-at.at ≡ length c.args.handlers.now = omega (arith, past, within, len) in
    c.loop-at.invariant ∙ ap (λ n. map (forgetting c.args.delta.now) (take n c.args.handlers.now) ++ drop n c.args.handlers.now) end ∙ mapped_all (forgetting c.args.delta.now) c.args.handlers.now
