use Rattle.mq_acts.proofs.AskLaws.{mqi_own}
use Rattle.mq_acts.proofs.asking.ask_mqi.Goals as goal

pub returns-clause-own : goal.returns-clause-own
returns-clause-own g c = mqi_own g.D.Disk.tells c.args.actor c.args.asked c.args.node.now c.apply-happened.new.self c.apply-happened.result c.facts.ensures c.requires.mqi c.apply-happened.ensures
