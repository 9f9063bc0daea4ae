use Rattle.std.proofs.Common.{◌+◌, ap, refl, subst, []}
use Rattle.std.specs.Prelude.{None}
use Rattle.mq_frame.specs.declared.frame.Seen.TheVariants as items
use Rattle.mq_history.specs.declared.calls.Actor.TheVariants as actors
use Rattle.mq_history.specs.declared.calls.Call.TheVariants as calls
use Rattle.mq_spec_node.specs.Words.{SenderEnd, with_end}
use Rattle.mq_spec_node.specs.Node.ChannelEnd.{Sends}
use Rattle.mq_turn_parts.specs.from_events.States.{NodeState}
use Rattle.mq_turn_parts.specs.Told.{Closes}
use Rattle.mq_turns.proofs.PreparedLaws.{tried_so}
use Rattle.mq_turns.proofs.SettleLaws.{want_turn}
use Rattle.mq_turns.proofs.preparing.prepare_turn.Goals as goal

pub returns-in-Err : goal.returns-in-Err
returns-in-Err g c = λ o. want_turn c.args.parts.now c.tried_in.new.parts c.args.end.cable _ _ _ _ _ o c.tried_in.ensures.same c.in-Err.ensures.told c.requires.may.acts.kept refl refl

pub returns-in-Ok : goal.returns-in-Ok
returns-in-Ok g c = λ o.
    let Z : SenderEnd → Type 0 = λ x. Closes (actors.Sender x.cable) calls.Turn c.in-Ok.field-0.told.choice c.in-Ok.field-0.told.delta (with_end (Sends c.end_tried-after.result) c.tried_in.new.parts.own)
    (record { stamp = c.parts.inside.stamp + 1; pushed = None; extras = 0; popped = items.Nothing }) [] c.tried_in.new.parts c.end_turn.new.parts in
    tried_so c.args.parts.now c.tried_in.new.parts c.end_turn.new.parts c.args.end c.end_tried-after.result c.in-Ok.field-0.out (c.parts.inside.stamp + 1) [] c.in-Ok.field-0.told.choice c.in-Ok.field-0.told.delta o
    c.end_tried-after.ensures (ap (λ (x : NodeState). x.stamp + 1) c.parts.view_is) refl c.requires.may.acts c.requires.next c.in-Ok.ensures.told c.tried_in.ensures.same (subst Z c.end.view_is c.end_turn.ensures)
