use Rattle.std.proofs.Common.{◌+◌, ap, subst}
use Rattle.mq_spec_manager.specs.Agents.{CanHold}
use Rattle.mq_spec_node.specs.Words.{SenderEnd}
use Rattle.mq_turn_parts.specs.from_events.States.{NodeState}
use Rattle.mq_turn_parts.specs.Turns.{Made}
use Rattle.mq_turns.specs.Begins.{begun_parts}
use Rattle.mq_turns.proofs.BeginLaws.{held_batch, held_is, held_room, held_up}
use Rattle.mq_turns.proofs.SettleLaws.{want_push}
use Rattle.mq_turns.proofs.beginning.begin_turn.Goals as goal

pub returns-in-Err : goal.returns-in-Err
returns-in-Err g c =
    want_push c.args.parts.now c.held_in.new.parts c.args.end.cable _ _ _ _ _ c.held_in.ensures.same c.in-Err.ensures.told c.requires.may.acts.kept (g.met.W.Wire.reads_none c.args.wire.now) (g.met.W.Wire.writes_none c.args.wire.now)

pub begun_turn-requires-clause-room : goal.begun_turn-requires-clause-room
begun_turn-requires-clause-room g c = held_room c.args.parts.now c.held_in.new.parts c.held_in.ensures.same c.requires.may.room

pub begun_turn-requires-clause-up : goal.begun_turn-requires-clause-up
begun_turn-requires-clause-up g c =
    let M : SenderEnd → Type 0 = λ x. Made (begun_parts x c.args.n c.args.count c.args.parts.now.manager.plain) c.in-Ok.told.choice c.in-Ok.told.delta c.args.parts.now.manager c.held_in.new.parts.manager in
    held_up c.args.parts.now c.held_in.new.parts c.args.end c.args.n c.args.count c.in-Ok.told.choice c.in-Ok.told.delta c.requires.may.acts c.held_in.ensures.same c.in-Ok.ensures.ran.0 (subst M c.end.view_is c.in-Ok.ensures.told)

pub begun_turn-requires-clause-batch : goal.begun_turn-requires-clause-batch
begun_turn-requires-clause-batch g c =
    let M : SenderEnd → Type 0 = λ x. Made (begun_parts x c.args.n c.args.count c.args.parts.now.manager.plain) c.in-Ok.told.choice c.in-Ok.told.delta c.args.parts.now.manager c.held_in.new.parts.manager in
    held_batch c.args.parts.now c.held_in.new.parts c.args.end c.args.n c.args.count c.in-Ok.told.choice c.in-Ok.told.delta c.requires.may.acts c.held_in.ensures.same c.in-Ok.ensures.ran.0 (subst M c.end.view_is c.in-Ok.ensures.told)

pub returns-in-Ok : goal.returns-in-Ok
returns-in-Ok g c =
    let M : SenderEnd → Type 0 = λ x. Made (begun_parts x c.args.n c.args.count c.args.parts.now.manager.plain) c.in-Ok.told.choice c.in-Ok.told.delta c.args.parts.now.manager c.held_in.new.parts.manager in
    let C : SenderEnd → Type 0 = λ x. CanHold x.channel c.args.parts.now.manager.plain in
    c.begun_turn.ensures c.args.parts.now
    (held_is c.args.parts.now c.held_in.new.parts c.args.end c.args.n c.args.count (c.parts.inside.stamp + 1) c.in-Ok.told.choice c.in-Ok.told.delta c.requires.may.acts c.held_in.ensures.same c.in-Ok.ensures.ran.0 (subst M c.end.view_is c.in-Ok.ensures.told) (subst C c.end.view_is c.in-Ok.ensures.ran.1)
    (ap (λ (x : NodeState). x.stamp + 1) c.parts.view_is) c.requires.next)
