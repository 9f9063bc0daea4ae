use Rattle.std.proofs.Common.{ap, max, ◌∙◌, ◌+◌}
use Rattle.mq_turn_parts.specs.from_events.States.{NodeState}
use Rattle.mq_takes.proofs.WorkLaws.{worked_so}
use Rattle.mq_takes.proofs.working.work_done.Goals as goal

pub returns : goal.returns
returns g c = λ o e s ps is.
    worked_so s c.args.parts.now c.close_turn.new.parts e c.args.last c.cable_of-cable.result ps c.args.received c.args.sight.seen _ c.args.sight.stamp c.next_stamp-stamp.result c.args.told.choice c.args.told.delta _ _ o
    is c.cable_of-cable.ensures (c.next_stamp-stamp.ensures ∙ ap (λ (x : NodeState). max x.stamp c.args.sight.stamp + 1) c.parts.view_is) c.requires.saw.sees c.close_turn.ensures (c.pass.ensures.read c.args.parts.now.stamp) c.pass.ensures.written
