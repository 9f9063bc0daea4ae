use Rattle.std.proofs.Common.{subst}
use Rattle.mq_spec_manager.specs.Agents.{seize}
use Rattle.mq_spec_node.specs.Words.{SenderEnd}
use Rattle.mq_turn_parts.specs.from_events.States.{NodeState}
use Rattle.mq_operate.specs.Senders.{SoughtOr}
use Rattle.mq_operate.proofs.senders.sought_in.Goals as goal

pub returns-clause-sought : goal.returns-clause-sought
returns-clause-sought g c =
    subst (λ (e : SenderEnd). SoughtOr (seize e.channel c.args.parts.now.manager.plain) c.sought.result c.args.parts.now.manager c.sought.new.manager) c.end.view_is
    (subst (λ (s : NodeState). SoughtOr (seize c.end.inside.channel s.manager.plain) c.sought.result s.manager c.sought.new.manager) c.parts.view_is c.sought.ensures)
