use Rattle.std.proofs.Common.{◌≡◌, ◌<◌, ◌++◌, List, length, take, drop, ap, ◌∙◌, arith}
use Rattle.std.specs.Prelude.{map}
use Rattle.mq_spec_node.specs.Node.{Monitor}
use Rattle.mq_own.specs.Views.{remembering}
use Rattle.mq_base.proofs.MapLaws.{mapped_next, mapped_all, mapped_long}
use Rattle.mq_own.proofs.own.remember_answer.Goals as goal

pub at_mut-requires : goal.at_mut-requires
at_mut-requires c =
    let long = ap (λ (xs : List Monitor). length xs) c.loop-at.invariant ∙ mapped_long (remembering c.args.number c.args.call.now c.args.reply.now) c.args.monitors.now c.loop-at.at in
    let lt = c.loop-at-test.true in
    let len = c.len-at-end.ensures in
    omega (arith, long, lt, len)

pub loop-at-preserved : goal.loop-at-preserved
loop-at-preserved c =
    let lt = c.loop-at-test.true in
    let len = c.len-at-end.ensures in
    let within : c.loop-at.at < length c.args.monitors.now = omega (arith, lt, len) in
    mapped_next (remembering c.args.number c.args.call.now c.args.reply.now) c.args.monitors.now c.loop-at.monitors c.loop-at.at c.at_mut.result.now c.remember_if.new.monitor c.loop-at.invariant within c.at_mut.ensures.value c.remember_if.ensures

pub returns : goal.returns
returns c =
    let past = c.loop-at-test.false in
    let within = c.loop-at.auto.at-end in
    let len = c.len-at-end.ensures in
    let end : c.loop-at.at ≡ length c.args.monitors.now = omega (arith, past, within, len) in
    c.loop-at.invariant ∙ ap (λ n. map (remembering c.args.number c.args.call.now c.args.reply.now) (take n c.args.monitors.now) ++ drop n c.args.monitors.now) end ∙ mapped_all (remembering c.args.number c.args.call.now c.args.reply.now) c.args.monitors.now
