use Rattle.mq_steps.proofs.CountLaws.{both}
use Rattle.mq_steps.proofs.pumping.turns_of_round.Goals as goal

pub returns-clause-told : goal.returns-clause-told
returns-clause-told g c =
    let old = g.N.Nodes.course c.args.nodes.now in
    let mid = g.N.Nodes.course c.round.new.nodes in
    let new = g.N.Nodes.course c.timeouts.new.nodes in
    both c.args.most c.in_ok-left.left c.timeouts.result old mid new c.if-left-most.false c.in_ok-left.ensures.told c.timeouts.ensures.told
