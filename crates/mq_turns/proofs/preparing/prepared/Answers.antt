use Rattle.mq_spec_manager.specs.Agents.{prepare}
use Rattle.mq_turns.proofs.PreparedLaws.{prepare_full, prepare_ran, prepare_short, prepare_stopped, prepare_wants}
use Rattle.mq_turns.proofs.preparing.prepared.Goals as goal

pub returns-in-Ok : goal.returns-in-Ok
returns-in-Ok g c = prepare_ran (prepare c.args.channel.now c.args.last c.args.manager.now.plain) c.ran.result c.args.manager.now c.prepare.new.self c.ran.new.manager c.in-Ok.ensures.meets c.ran.ensures.choice c.ran.ensures.delta c.ran.ensures.left

pub returns-in-NoRoom : goal.returns-in-NoRoom
returns-in-NoRoom g c = prepare_full (prepare c.args.channel.now c.args.last c.args.manager.now.plain) _ c.args.manager.now c.prepare.new.self c.in-NoRoom.ensures c.in-Err.ensures.meets

pub returns-in-NoMemory : goal.returns-in-NoMemory
returns-in-NoMemory g c = prepare_wants (prepare c.args.channel.now c.args.last c.args.manager.now.plain) _ _ c.args.manager.now c.prepare.new.self c.in-NoMemory.ensures c.in-Err.ensures.meets

pub returns-in-Stopped : goal.returns-in-Stopped
returns-in-Stopped g c =
    prepare_stopped (prepare c.args.channel.now c.args.last c.args.manager.now.plain) _ c.in-Stopped.by c.stopped.result c.args.manager.now c.prepare.new.self c.stopped.new.manager (prepare_short c.args.channel.now c.args.last c.args.manager.now.plain) c.in-Stopped.ensures c.in-Err.ensures.meets
    c.stopped.ensures.choice c.stopped.ensures.delta c.stopped.ensures.left
