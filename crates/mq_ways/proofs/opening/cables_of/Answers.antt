use Rattle.std.specs.Prelude.{refl}
use Rattle.std.proofs.Common.{arith}
use Rattle.std.proofs.lemmas.Option.{slice_get_read}
use Rattle.mq_ways.proofs.OpeningLaws.{new_all, new_more}
use Rattle.mq_ways.proofs.opening.cables_of.Goals as goal

pub loop-line-preserved : goal.loop-line-preserved
loop-line-preserved c = λ rest h.
    new_more c.args.lines.now c.loop-line.cables c.push.new.self c.loop-line.line-index c.line-item.result c.in_ok-cable.cable c.in-Ok.ensures.ok (slice_get_read _ _ _ _ refl c.loop-line-test.true c.line-item.is)
    c.in_ok-cable.ensures.out c.in_ok-cable.ensures.back c.loop-line.invariant rest h

pub returns : goal.returns
returns c = new_all c.args.lines.now c.loop-line.cables c.loop-line.line-index (omega (arith, c.loop-line-test.false)) c.loop-line.invariant
