use Rattle.std.proofs.Common.{false, sym, subst}
use Rattle.mq_handle.specs.declared.choosing.Ruling.{Ruling}
use Rattle.mq_handle.specs.Treatments.{TreatsAs, treatment}
use Rattle.mq_handle.proofs.treating.treat.Goals as goal

pub discard_letter-requires-clause-there : goal.discard_letter-requires-clause-there
discard_letter-requires-clause-there g c = (c.requires.can false).free

pub returns-in-Ignore : goal.returns-in-Ignore
returns-in-Ignore g c =
    subst (λ (r : Ruling). TreatsAs (treatment c.args.letter.now.queue c.args.letter.now.ident r c.args.letter.now.failed c.args.handler.now c.args.manager.now.plain) c.args.handler.now c.args.manager.now c.ignore_letter.result c.ignore_letter.new.handler c.args.manager.now)
    (sym c.in-Ignore.is) (c.ignore_letter.ensures c.args.letter.now.failed c.args.manager.now)

pub returns-in-Discard : goal.returns-in-Discard
returns-in-Discard g c =
    subst (λ (r : Ruling). TreatsAs (treatment c.args.letter.now.queue c.args.letter.now.ident r c.args.letter.now.failed c.args.handler.now c.args.manager.now.plain) c.args.handler.now c.args.manager.now c.discard_letter.result c.args.handler.now c.discard_letter.new.manager)
    (sym c.in-Discard.is) (c.discard_letter.ensures c.args.letter.now.failed c.args.handler.now)
