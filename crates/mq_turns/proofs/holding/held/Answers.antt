use Rattle.mq_spec_manager.specs.Agents.{hold_batch}
use Rattle.mq_turn_parts.proofs.AgentLaws.{agent_ran}
use Rattle.mq_turn_parts.proofs.PartLaws.{want_made}
use Rattle.mq_turns.proofs.holding.held.Goals as goal

pub returns-in-Ok-clause-told : goal.returns-in-Ok-clause-told
returns-in-Ok-clause-told g c = agent_ran (hold_batch c.args.channel.now c.args.unit.now c.args.most c.args.manager.now.plain) _ c.ran.result c.args.manager.now c.hold_batch.new.self c.ran.new.manager c.in-Ok.ensures.meets c.ran.ensures.choice c.ran.ensures.delta c.ran.ensures.left

pub returns-in-Err-clause-told : goal.returns-in-Err-clause-told
returns-in-Err-clause-told g c = want_made (hold_batch c.args.channel.now c.args.unit.now c.args.most c.args.manager.now.plain) c.args.manager.now c.hold_batch.new.self c.in-Err.ensures.meets
