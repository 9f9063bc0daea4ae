use Rattle.std.proofs.Common.{List, length, refl, sym, ap, ◌∙◌, arith, rules}
use Rattle.std.specs.Prelude.{slice_get}
use Rattle.std.proofs.lemmas.Option.{slice_get_read}
use Rattle.mq_ways.specs.Ways.{CableState}
use Rattle.mq_split.specs.Opening.{IsShort}
use Rattle.mq_split.proofs.OpenLaws.{each_all, each_more}
use Rattle.mq_split.proofs.opening.are_short.Goals as goal

pub loop-cable-preserved : goal.loop-cable-preserved
loop-cable-preserved c =
    let short : IsShort c.cable-item.result = search rules in
    each_more IsShort c.args.cables.now c.loop-cable.cable-index c.cable-item.result
    (sym (ap (λ (xs : List CableState). slice_get xs c.loop-cable.cable-index) c.as_slice-cable-items.ensures) ∙ slice_get_read _ _ _ _ refl c.loop-cable-test.true c.cable-item.is)
    short c.loop-cable.invariant

pub returns : goal.returns
returns c t =
    let past = c.loop-cable-test.false in
    let same = ap (λ (xs : List CableState). length xs) c.as_slice-cable-items.ensures in
    each_all IsShort c.args.cables.now c.loop-cable.cable-index (omega (arith, past, same)) c.loop-cable.invariant
