use Rattle.std.proofs.Common.{ap, ◌∙◌}
use Rattle.mq_spec_node.specs.Words.{ReceiverEnd, with_end}
use Rattle.mq_spec_node.specs.Node.ChannelEnd.{Receives}
use Rattle.mq_operate.proofs.ReceiverLaws.{change_some}
use Rattle.mq_operate.proofs.receivers.change_end.Goals as goal

pub returns-in-Some : goal.returns-in-Some
returns-in-Some c = λ e there.
    change_some c.args.cable c.in-Some.end e c.args.machine c.args.empties c.args.own.now c.lift_receiver.new.own c.set_end.new.own c.in-Some.ensures.end c.in-Some.ensures.left
    (c.set_end.ensures ∙ ap (λ (x : ReceiverEnd). with_end (Receives x) c.lift_receiver.new.own) c.behind.ensures) there
