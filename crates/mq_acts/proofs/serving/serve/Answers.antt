use Rattle.mq_acts.proofs.OwnLaws.{own_served}
use Rattle.mq_acts.proofs.serving.serve.Goals as goal

pub returns-clause-own : goal.returns-clause-own
returns-clause-own g c = own_served c.args.node.now c.serve_all-served.new.node c.facts.ensures c.serve_all-served.ensures.turns
