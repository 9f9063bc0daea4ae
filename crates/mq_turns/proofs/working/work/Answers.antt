use Rattle.std.proofs.Common.{subst}
use Rattle.mq_spec_node.specs.Words.{SenderEnd}
use Rattle.mq_turns.specs.Sends.{sender_parts}
use Rattle.mq_turn_parts.specs.Turns.{IsBehind, left_parts}
use Rattle.mq_turn_parts.proofs.TimeLaws.{made_left}
use Rattle.mq_turns.proofs.working.work.Goals as goal

pub returns-in-Ok : goal.returns-in-Ok
returns-in-Ok g c =
    let B : SenderEnd → Type 0 = λ x. IsBehind (left_parts x.channel c.in-Ok.told.choice c.args.running c.act.new.manager.plain) c.act.new.manager c.leave_if.new.manager in
    made_left (sender_parts c.args.end.now c.args.does.now c.args.manager.now.plain) c.args.end.now.channel c.args.running c.in-Ok.told.choice c.in-Ok.told.delta c.args.manager.now c.act.new.manager c.leave_if.new.manager c.in-Ok.ensures (subst B c.end.view_is c.leave_if.ensures)
