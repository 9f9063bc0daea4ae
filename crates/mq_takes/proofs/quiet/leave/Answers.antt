use Rattle.std.proofs.Common.{ap, max, ◌∙◌, ◌+◌, [], refl}
use Rattle.mq_turn_parts.specs.from_events.States.{NodeState}
use Rattle.mq_takes.proofs.TakeLaws.{left_so}
use Rattle.mq_takes.proofs.quiet.leave.Goals as goal

pub returns : goal.returns
returns g c = λ o e is.
    left_so c.args.parts.now c.end_turn.new.parts e c.args.last c.cable_of-cable.result c.args.sight.seen _ c.args.sight.stamp c.next_stamp-stamp.result [] c.nothing_done-told.result.choice c.nothing_done-told.result.delta _ _ o
    is c.cable_of-cable.ensures (c.next_stamp-stamp.ensures ∙ ap (λ (x : NodeState). max x.stamp c.args.sight.stamp + 1) c.parts.view_is) refl c.nothing_done-told.ensures.choice c.nothing_done-told.ensures.delta c.requires.saw.sees c.end_turn.ensures (c.pass.ensures.read c.args.parts.now.stamp) c.pass.ensures.written
