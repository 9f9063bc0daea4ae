use Rattle.std.proofs.Common.{ℕ, List, ap, ◌∙◌}
use Rattle.std.proofs.lemmas.Result.{on_ok_weaker}
use Rattle.mq_sc_apply.specs.Uses.{nothing_used}
use Rattle.mq_sc_apply.specs.Commands.{plan, after}
use Rattle.mq_net_books.proofs.ObjectLaws.{settled_after}
use Rattle.mq_net_books.proofs.accounts.obey.Goals as goal

pub returns : goal.returns
returns c =
    on_ok_weaker c.settled.result
    (λ s. settled_after (plan c.args.command.now c.blank.result c.args.defs.now.definitions nothing_used) c.apply-answer.result c.args.defs.now.definitions c.apply-answer.new.defs.definitions c.apply-answer.ensures.reply c.apply-answer.ensures.after c.apply-answer.ensures.refused s
    ∙ ap (λ (own : List ℕ). after (plan c.args.command.now own c.args.defs.now.definitions nothing_used) c.args.defs.now.definitions) c.blank.ensures)
    c.settled.ensures
