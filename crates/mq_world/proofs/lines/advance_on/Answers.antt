use Rattle.mq_world.proofs.OwnLaws.{line_settled}
use Rattle.mq_world.proofs.lines.advance_on.Goals as goal

pub returns-in-Ok-Done-clause-own : goal.returns-in-Ok-Done-clause-own
returns-in-Ok-Done-clause-own g c = line_settled g.D.Disk.tells c.args.manager c.args.node.now c.advance.new.node c.settle.new.node c.settle.result c.in-Ok-Done.ensures.own c.settle.ensures.told
