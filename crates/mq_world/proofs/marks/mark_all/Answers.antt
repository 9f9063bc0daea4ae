use Rattle.std.proofs.Common.{◌≡◌, ◌<◌, ◌++◌, List, length, take, drop, sym, ap, ◌∙◌, arith}
use Rattle.std.specs.Prelude.{map}
use Rattle.mq_watch.specs.from_events.States.{NodeState, marked}
use Rattle.mq_base.proofs.MapLaws.{mapped_all, mapped_long, mapped_next}
use Rattle.mq_world.proofs.MarkLaws.{mapped_here}
use Rattle.mq_world.proofs.marks.mark_all.Goals as goal

pub at_mut-requires : goal.at_mut-requires
at_mut-requires g c =
    let long = ap (λ (xs : List NodeState). length xs) c.loop-at.invariant ∙ mapped_long (marked c.args.idle) c.args.nodes.now c.loop-at.at in
    let lt = c.loop-at-test.true in
    let len = c.len-at-end.ensures in
    omega (arith, long, lt, len)

pub mark-requires : goal.mark-requires
mark-requires g c =
    record { room = c.requires.room c.loop-at.at c.at_mut.result.now (sym (mapped_here (marked c.args.idle) c.args.nodes.now c.loop-at.nodes c.loop-at.at c.loop-at.invariant) ∙ c.at_mut.ensures.value) }

pub loop-at-preserved : goal.loop-at-preserved
loop-at-preserved g c =
    let lt = c.loop-at-test.true in
    let len = c.len-at-end.ensures in
    let within : c.loop-at.at < length c.args.nodes.now = omega (arith, lt, len) in
    mapped_next (marked c.args.idle) c.args.nodes.now c.loop-at.nodes c.loop-at.at c.at_mut.result.now c.mark.new.self c.loop-at.invariant within c.at_mut.ensures.value c.mark.ensures

pub returns : goal.returns
returns g c =
    let past = c.loop-at-test.false in
    let within = c.loop-at.auto.at-end in
    let len = c.len-at-end.ensures in
    let end : c.loop-at.at ≡ length c.args.nodes.now = omega (arith, past, within, len) in
    c.loop-at.invariant ∙ ap (λ n. map (marked c.args.idle) (take n c.args.nodes.now) ++ drop n c.args.nodes.now) end ∙ mapped_all (marked c.args.idle) c.args.nodes.now
