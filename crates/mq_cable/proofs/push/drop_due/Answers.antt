use Rattle.std.proofs.Common.{ap, ◌∙◌}
use Rattle.mq_cable.specs.Offers.{due_of}
use Rattle.mq_cable.proofs.Taking.{none_due}
use Rattle.mq_cable.proofs.push.drop_due.Goals as goal

pub returns : goal.returns
returns c =
    let due = c.in_default.ensures.due in
    none_due c.args.frame c.take_due.new.kept.items (ap (due_of c.args.frame) due.1 ∙ due.0) ∙ c.in_default.ensures.left ∙ c.dropping.invariant.left
