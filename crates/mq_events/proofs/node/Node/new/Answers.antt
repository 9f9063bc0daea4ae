use Rattle.std.proofs.Common.{◌≡◌, true, sym, subst}
use Rattle.mq_events.specs.Counts.{HasFewRows, IsNode}
use Rattle.mq_events.specs.States.{NodeState}
use Rattle.mq_events.proofs.CountLaws.{begun_counted, spare_new}
use Rattle.mq_events.proofs.node.Node.new.Goals as goal

pub invariant_of-result : goal.invariant_of-result
invariant_of-result g c =
    subst IsNode (sym c.recount.ensures.same)
    (begun_counted c.args.parts c.requires.none c.requires.stamp c.requires.number c.requires.name c.requires.opens c.recount.new.self.spare.few
    (subst (λ (x : NodeState). c.recount.new.self.spare.few ≡ true → HasFewRows x.manager.plain) c.recount.ensures.same c.recount.ensures.few))

pub returns : goal.returns
returns g c = spare_new c.args.parts c.recount.new.self c.recount.ensures.same
