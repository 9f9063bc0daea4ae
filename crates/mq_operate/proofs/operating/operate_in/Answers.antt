use Rattle.mq_operate.proofs.TellLaws.{told_node}
use Rattle.mq_operate.proofs.operating.operate_in.Goals as goal

pub returns-in-Ok-clause-node : goal.returns-in-Ok-clause-node
returns-in-Ok-clause-node g c = told_node c.args.parts.now c.work.new.parts c.tell_worked.new.parts c.args.actor c.args.op c.in-Ok.worked c.in-Ok.ensures c.tell_worked.ensures c.requires.node c.requires.served
