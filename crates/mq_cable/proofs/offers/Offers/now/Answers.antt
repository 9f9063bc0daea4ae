use Rattle.std.proofs.Common.{[], ◌∷◌, suc, ◌∙◌}
use Rattle.std.specs.Prelude.{take}
use Rattle.mq_cable.specs.Offers.{due_of}
use Rattle.mq_cable.proofs.offers.Offers.now.Goals as goal

pub returns-clause-pushed : goal.returns-clause-pushed
returns-clause-pushed g c =
    let old = c.args.self.now in
    g.met.W.Wire.writes_more c.args.out.now c.push.new.self c.extras.new.out (c.args.item ∷ []) (take c.extras.result (due_of (suc old.number) old.kept)) c.in_default.ensures.ok c.extras.ensures.pushed

pub returns-clause-read : goal.returns-clause-read
returns-clause-read g c =
    (g.met.W.Wire.reads_more c.args.out.now c.push.new.self c.extras.new.out [] [] c.push.ensures.read.0 c.extras.ensures.read.0, c.extras.ensures.read.1 ∙ c.push.ensures.read.1)
