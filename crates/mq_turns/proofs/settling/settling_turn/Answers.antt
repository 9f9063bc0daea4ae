use Rattle.std.proofs.Common.{◌+◌, max, ap, subst, ◌∙◌, [], refl}
use Rattle.std.specs.Prelude.{None}
use Rattle.mq_history.specs.declared.calls.Actor.TheVariants as actors
use Rattle.mq_history.specs.declared.calls.Call.TheVariants as calls
use Rattle.mq_sender.specs.States.{is_running}
use Rattle.mq_spec_node.specs.Words.{SenderEnd, with_end}
use Rattle.mq_spec_node.specs.Node.ChannelEnd.{Sends}
use Rattle.mq_turn_parts.specs.from_events.States.{NodeState}
use Rattle.mq_turn_parts.specs.Told.{Closes}
use Rattle.mq_turns.proofs.SettleLaws.{settled_so, want_turn}
use Rattle.mq_turns.proofs.settling.settling_turn.Goals as goal

pub returns-in-Err : goal.returns-in-Err
returns-in-Err g c = λ o.
    want_turn c.args.parts.now c.work_in.new.parts c.args.end.cable _ _ _ _ _ o c.work_in.ensures.same c.in-Err.ensures.told c.requires.may.acts.kept (g.met.W.Wire.reads_none c.args.wire.now) (g.met.W.Wire.writes_none c.args.wire.now)

pub returns-in-Ok : goal.returns-in-Ok
returns-in-Ok g c = λ o.
    let Z : SenderEnd → Type 0 = λ x. Closes (actors.Sender x.cable) calls.Turn c.in-Ok.told.choice c.in-Ok.told.delta (with_end (Sends c.end_after-after.result) c.work_in.new.parts.own)
    (record { stamp = c.next_stamp-stamp.result; pushed = None; extras = 0; popped = c.args.sight.seen }) [] c.work_in.new.parts c.end_turn.new.parts in
    settled_so c.args.parts.now c.work_in.new.parts c.end_turn.new.parts c.args.end c.end_after-after.result c.args.does c.args.sight.seen _ c.args.sight.stamp c.is_running-running.result c.next_stamp-stamp.result [] c.in-Ok.told.choice c.in-Ok.told.delta _ _ o
    c.end_after-after.ensures (c.is_running-running.ensures ∙ ap (λ (x : SenderEnd). is_running x.machine.state) c.after.view_is) (c.next_stamp-stamp.ensures ∙ ap (λ (x : NodeState). max x.stamp c.args.sight.stamp + 1) c.parts.view_is) refl c.requires.may.acts c.requires.next c.requires.works c.requires.saw.sees
    c.in-Ok.ensures.told c.work_in.ensures.same (subst Z c.end.view_is c.end_turn.ensures) (c.pass.ensures.read c.args.parts.now.stamp) c.pass.ensures.written
