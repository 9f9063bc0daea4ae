use Rattle.std.proofs.Common.{◌+◌, max, ap, subst, ◌∙◌, [], refl}
use Rattle.std.specs.Prelude.{None}
use Rattle.mq_history.specs.declared.calls.Actor.TheVariants as actors
use Rattle.mq_history.specs.declared.calls.Call.TheVariants as calls
use Rattle.mq_spec_node.specs.Words.{SenderEnd, with_end}
use Rattle.mq_spec_node.specs.Node.ChannelEnd.{Sends}
use Rattle.mq_turn_parts.specs.from_events.States.{NodeState}
use Rattle.mq_turn_parts.specs.Told.{Closes}
use Rattle.mq_turns.proofs.SettleLaws.{ignored_so}
use Rattle.mq_turns.proofs.answering.ignoring_turn.Goals as goal

pub returns : goal.returns
returns g c = λ o.
    let Z : SenderEnd → Type 0 = λ x. Closes (actors.Sender x.cable) calls.Turn c.nothing_done-told.result.choice c.nothing_done-told.result.delta (with_end (Sends c.args.end) c.args.parts.now.own)
    (record { stamp = c.next_stamp-stamp.result; pushed = None; extras = 0; popped = c.args.sight.seen }) [] c.args.parts.now c.end_turn.new.parts in
    ignored_so c.args.parts.now c.end_turn.new.parts c.args.end c.nothing_done-told.result.choice c.nothing_done-told.result.delta c.args.sight.seen _ c.args.sight.stamp c.next_stamp-stamp.result [] _ _ o
    (c.next_stamp-stamp.ensures ∙ ap (λ (x : NodeState). max x.stamp c.args.sight.stamp + 1) c.parts.view_is) refl c.requires.may.acts c.requires.next c.requires.saw.sees c.nothing_done-told.ensures.choice c.nothing_done-told.ensures.delta
    (subst Z c.end.view_is c.end_turn.ensures) (c.pass.ensures.read c.args.parts.now.stamp) c.pass.ensures.written
