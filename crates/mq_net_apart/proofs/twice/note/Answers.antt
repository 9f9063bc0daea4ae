use Rattle.std.proofs.Common.{Bool, ap, ◌∙◌}
use Rattle.std.specs.Prelude.{not}
use Rattle.mq_message.specs.declared.message.Ident.{Ident}
use Rattle.mq_shelves.specs.Spots.{is_met}
use Rattle.mq_net_apart.specs.Twice.{again_in}
use Rattle.mq_net_apart.proofs.twice.note.Goals as goal

pub returns-clause-twice : goal.returns-clause-twice
returns-clause-twice c = λ (k : Ident). c.in_ok-put_if.ensures k ∙ ap (λ (b : Bool). again_in (not b) c.args.ident.now k (is_met c.args.twice.now k)) c.in_ok-first.ensures.first
