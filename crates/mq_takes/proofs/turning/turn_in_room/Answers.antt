use Rattle.std.proofs.Common.{sym, ap, ◌∙◌}
use Rattle.mq_cabled.specs.Lifted.{with_lifted}
use Rattle.mq_spec_node.specs.Words.{Own}
use Rattle.mq_takes.proofs.LiftLaws.{absent_rests, lifted_so, low_lifted, may_take, none_lifted, rests_so, room_lifted}
use Rattle.mq_takes.proofs.turning.turn_in_room.Goals as goal

pub returns-in-None : goal.returns-in-None
returns-in-None g c =
    rests_so c.args.cable _ _ _ _ c.args.parts.now c.lift.new.parts c.args.offers.now
    (c.lift.ensures.left ∙ ap (λ (o : Own). record c.args.parts.now { own = o }) (none_lifted c.args.cable c.args.parts.now.own (sym c.in-None.ensures.end)))
    c.requires.kept (absent_rests c.args.parts.now c.args.cable (sym c.in-None.ensures.end)) (g.met.W.Wire.reads_none c.args.wire.now) (g.met.W.Wire.writes_none c.args.wire.now)

pub lifted_turn-requires-clause-may : goal.lifted_turn-requires-clause-may
lifted_turn-requires-clause-may g c = record {
  room = room_lifted c.args.parts.now c.lift.new.parts (with_lifted c.args.cable c.args.parts.now.own) c.lift.ensures.left c.requires.room;
  acts = may_take c.args.parts.now c.lift.new.parts c.args.cable c.in-Some.end (sym c.in-Some.ensures.end) c.lift.ensures.left c.requires.kept c.requires.served c.requires.may c.requires.up;
}

pub lifted_turn-requires-clause-few : goal.lifted_turn-requires-clause-few
lifted_turn-requires-clause-few g c = low_lifted c.args.parts.now c.lift.new.parts (with_lifted c.args.cable c.args.parts.now.own) c.lift.ensures.left c.requires.few

pub returns-in-Some : goal.returns-in-Some
returns-in-Some g c =
    lifted_so c.args.cable _ _ _ _ c.args.parts.now c.lift.new.parts c.lifted_turn.new.parts c.in-Some.end _ _ _ (sym c.in-Some.ensures.end) c.lift.ensures.left c.lifted_turn.ensures
