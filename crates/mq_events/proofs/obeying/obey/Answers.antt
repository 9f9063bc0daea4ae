use Rattle.mq_events.proofs.CommandLaws.{command_ends, command_wants}
use Rattle.mq_events.proofs.obeying.obey.Goals as goal

pub returns : goal.returns
returns g c =
    command_ends c.args.asked.now c.args.manager.now c.command-ended.new.self c.told-choice.new.manager c.command-ended.result c.told-choice.result.choice c.reply_of.result c.told-choice.result.delta c.in-Ok.acted
    c.command-ended.ensures.meets c.in-Ok.ensures.0 c.in-Ok.ensures.1 c.told-choice.ensures.choice c.reply_of.ensures c.told-choice.ensures.delta c.told-choice.ensures.after

pub returns-in-Err : goal.returns-in-Err
returns-in-Err g c = command_wants c.args.asked.now c.args.manager.now c.command-ended.new.self _ c.command-ended.result c.command-ended.ensures.meets c.in-Err.ensures
