use Rattle.mq_world.proofs.IdleLaws.{not_past}
use Rattle.mq_world.proofs.idling.node_of.Goals as goal

pub unreachable-requires : goal.unreachable-requires
unreachable-requires g c = not_past c.args.nodes.now c.from.result c.args.manager c.requires.there c.from.ensures c.in-None.ensures
