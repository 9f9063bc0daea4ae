use Rattle.mq_world.proofs.NodeLaws.{ended_value, settles}
use Rattle.mq_world.proofs.settling.settle.Goals as goal

pub returns-clause-told : goal.returns-clause-told
returns-clause-told g c = settles c.args.manager c.args.value c.args.node.now c.serve-served.new.node c.serve-served.result c.is_spent-spent.result c.ended.result c.serve-served.ensures.turns c.serve-served.ensures.done c.is_spent-spent.ensures.spent c.is_spent-spent.ensures.kept c.ended.ensures

pub returns-clause-value : goal.returns-clause-value
returns-clause-value g c = ended_value c.args.manager c.args.value c.serve-served.result c.is_spent-spent.result c.ended.result c.ended.ensures
