use Rattle.mq_calls.specs.declared.agents.Note.TheVariants as notes
use Rattle.mq_core.specs.Values.{manager_of}
use Rattle.mq_spec_manager.specs.Agents.{harden}
use Rattle.mq_agents.proofs.SettleLaws.{is_doubted}
use Rattle.mq_agents.proofs.WriteLaws.{in_room}
use Rattle.mq_agents.proofs.settling.harden_resolved.Goals as goal

pub returns-clause-room : goal.returns-clause-room
returns-clause-room g c = λ can.
    in_room (manager_of c.args.core.now) _ (harden c.args.channel.now (notes.Resolved c.args.unit.now c.args.commit c.args.operator) c.args.core.now.plain) c.settle_unit.result (c.settle_unit.ensures.wants (is_doubted c.args.channel.now c.args.unit.now c.args.commit c.args.operator c.args.core.now.plain can)) c.settle_unit.ensures.meets
