use Rattle.std.specs.Prelude.{false}
use Rattle.mq_spec_manager.specs.Agents.{release_batch}
use Rattle.mq_spec_node.specs.Words.{parts_of}
use Rattle.mq_turn_parts.proofs.TimeLaws.{made_left}
use Rattle.mq_turns.proofs.preparing.given_back.Goals as goal

pub returns-in-Ok : goal.returns-in-Ok
returns-in-Ok g c = made_left (parts_of (release_batch c.args.channel.now c.args.manager.now.plain)) c.args.channel.now false c.in-Ok.told.choice c.in-Ok.told.delta c.args.manager.now c.released.new.manager c.leave_if.new.manager c.in-Ok.ensures c.leave_if.ensures
