use Rattle.std.proofs.Common.{◌≡◌, true, arith, ◌∙◌}
use Rattle.mq_shelves.proofs.ViewLaws.{taken}
use Rattle.mq_shelves.proofs.rows.Rows.take.Goals as goal

pub returns-clause-taken : goal.returns-clause-taken
returns-clause-taken c = λ stood.
    let there : c.stands_at.result ≡ true = grind arith in
    c.remove.ensures ∙ taken c.args.ident.now c.args.self.now c.args.queue.now (c.stands_at.ensures.all there)
