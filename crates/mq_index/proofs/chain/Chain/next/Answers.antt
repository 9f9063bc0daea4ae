use Rattle.std.proofs.Common.{arith, refl}
use Rattle.std.proofs.lemmas.Option.{slice_get_read}
use Rattle.mq_index.specs.Keys.{keyed}
use Rattle.mq_index.proofs.ChainLaws.{stands_within}
use Rattle.mq_index.proofs.chain.Chain.next.Goals as goal

pub returns : goal.returns
returns c =
    let lt = stands_within c.args.key.now c.args.at (keyed c.args.kind c.args.slots.now) c.requires.there in
    c.requires.chain.steps c.args.key.now c.args.at c.index.result.now c.requires.there
    (slice_get_read c.args.self.now.nexts.items _ c.args.at _ refl (omega (arith, lt, c.requires.chain.long)) c.index.ensures)
