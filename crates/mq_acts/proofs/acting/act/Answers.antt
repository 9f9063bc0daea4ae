use Rattle.mq_acts.proofs.OwnLaws.{own_acted}
use Rattle.mq_acts.proofs.acting.act.Goals as goal

pub returns-clause-own : goal.returns-clause-own
returns-clause-own g c = own_acted g.D.Disk.tells c.args.actor c.args.asked c.args.node.now c.act_as-acted.new.node c.act_as-acted.result c.facts.ensures c.act_as-acted.ensures.did c.act_as-acted.ensures.own
