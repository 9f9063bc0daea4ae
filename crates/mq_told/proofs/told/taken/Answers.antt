use Rattle.std.proofs.Common.{◌≡◌, true, sym, ◌∙◌, arith}
use Rattle.mq_told.proofs.ToldLaws.{kept_front}
use Rattle.mq_told.proofs.told.taken.Goals as goal

pub returns : goal.returns
returns c =
    let same : c.is_same.result ≡ true = grind arith in
    let begun : c.begin_with.result ≡ true = grind arith in
    kept_front c.old.inside.manager c.args.manager c.old.inside.name c.args.name.now c.args.framed.now c.as_slice.result.now c.old.inside.front c.old.invariant (sym c.is_same.ensures ∙ same)
    c.as_slice.ensures (sym c.begin_with.ensures ∙ begun)
