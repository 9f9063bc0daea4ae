use Rattle.std.proofs.Common.{◌≡◌, ◌<◌, ◌++◌, List, length, take, drop, ap, ◌∙◌, arith}
use Rattle.std.specs.Prelude.{map}
use Rattle.mq_calls.specs.Words.{off_list}
use Rattle.mq_calls.specs.declared.state.SenderSide.{SenderSide}
use Rattle.mq_base.proofs.MapLaws.{mapped_next, mapped_all, mapped_long}
use Rattle.mq_receive.proofs.doubts.strike_all.Goals as goal

pub at_mut-requires : goal.at_mut-requires
at_mut-requires c =
    let long = ap (λ (sides : List SenderSide). length sides) c.loop-at.invariant ∙ mapped_long (off_list c.args.ident.now) c.args.sides.now c.loop-at.at in
    let lt = c.loop-at-test.true in
    let len = c.len-at-end.ensures in
    omega (arith, long, lt, len)

pub loop-at-preserved : goal.loop-at-preserved
loop-at-preserved c =
    let lt = c.loop-at-test.true in
    let len = c.len-at-end.ensures in
    let within : c.loop-at.at < length c.args.sides.now = omega (arith, lt, len) in
    mapped_next (off_list c.args.ident.now) c.args.sides.now c.loop-at.sides c.loop-at.at c.at_mut.result.now c.strike.new.side c.loop-at.invariant within c.at_mut.ensures.value c.strike.ensures

pub returns : goal.returns
returns c =
    let past = c.loop-at-test.false in
    let within = c.loop-at.auto.at-end in
    let len = c.len-at-end.ensures in
    let end : c.loop-at.at ≡ length c.args.sides.now = omega (arith, past, within, len) in
    c.loop-at.invariant ∙ ap (λ n. map (off_list c.args.ident.now) (take n c.args.sides.now) ++ drop n c.args.sides.now) end ∙ mapped_all (off_list c.args.ident.now) c.args.sides.now
