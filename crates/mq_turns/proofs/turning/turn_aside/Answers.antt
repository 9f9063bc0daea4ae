use Rattle.mq_turn_parts.proofs.from_events.CountLaws.{set_aside_node}
use Rattle.mq_turn_parts.proofs.DueLaws.{beside_kept, beside_may, beside_served}
use Rattle.mq_turns.proofs.NodeLaws.{aside_turn, aside_want, sent_node}
use Rattle.mq_turns.proofs.turning.turn_aside.Goals as goal

pub returns-in-Err-clause-node : goal.returns-in-Err-clause-node
returns-in-Err-clause-node g c = set_aside_node c.args.parts.now c.set_aside.new.self c.set_aside.ensures.same c.set_aside.ensures.few c.set_aside.ensures.more c.requires.node

pub returns-in-Err-clause-turn : goal.returns-in-Err-clause-turn
returns-in-Err-clause-turn g c = aside_want c.args.cable c.args.parts.now c.set_aside.new.self _ _ _ (Unit {0}) (Unit {0}) _ c.set_aside.ensures.same (g.met.W.Wire.reads_none c.args.wire.now) (g.met.W.Wire.writes_none c.args.wire.now)

pub turn_at-requires-clause-kept : goal.turn_at-requires-clause-kept
turn_at-requires-clause-kept g c = beside_kept c.args.parts.now c.set_aside.new.self c.set_aside.ensures.same c.requires.node.kept

pub turn_at-requires-clause-served : goal.turn_at-requires-clause-served
turn_at-requires-clause-served g c = beside_served c.args.parts.now c.set_aside.new.self c.set_aside.ensures.same c.requires.served

pub turn_at-requires-clause-may : goal.turn_at-requires-clause-may
turn_at-requires-clause-may g c = beside_may c.args.parts.now c.set_aside.new.self c.set_aside.ensures.same c.requires.may

pub returns-in-Ok-clause-node : goal.returns-in-Ok-clause-node
returns-in-Ok-clause-node g c =
    sent_node c.args.cable _ _ _ _ _ _ c.set_aside.new.self _ c.turn_at.result (set_aside_node c.args.parts.now c.set_aside.new.self c.set_aside.ensures.same c.set_aside.ensures.few c.set_aside.ensures.more c.requires.node) c.in-Ok.ensures.ok c.turn_at.ensures

pub returns-in-Ok-clause-turn : goal.returns-in-Ok-clause-turn
returns-in-Ok-clause-turn g c = aside_turn c.args.cable _ _ _ _ _ _ c.args.parts.now c.set_aside.new.self _ c.turn_at.result c.set_aside.ensures.same c.turn_at.ensures
