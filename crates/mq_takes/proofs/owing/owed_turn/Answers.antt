use Rattle.std.proofs.Common.{◌+◌, ℕ, refl, ap, subst, ◌∙◌, []}
use Rattle.std.specs.Prelude.{Option, Ok}
use Rattle.mq_turn_parts.specs.from_events.States.{NodeState}
use Rattle.mq_spec_node.specs.Terms.{owed_frame}
use Rattle.mq_wires.specs.Wires.{OfferTold}
use Rattle.mq_takes.proofs.TakeLaws.{pushed_so, put_so, refused_so}
use Rattle.mq_takes.proofs.owing.owed_turn.Goals as goal

pub returns-in-Err : goal.returns-in-Err
returns-in-Err g c = put_so c.args.parts.now c.put_back.new.parts c.args.end c.args.end _ _ _ _ _ _ _ c.requires.may.acts refl c.put_back.ensures c.offer.ensures.read.0 c.in-Err.ensures.told

pub returns-in-Ok-None : goal.returns-in-Ok-None
returns-in-Ok-None g c =
    let E : Option ℕ → Type 0 = λ x. OfferTold (λ xs. g.W.Wire.writes c.args.wire.now xs c.offer.new.wire) (g.W.Wire.was_full c.args.wire.now c.offer.new.wire) c.args.offers.now c.frame-frame.result (Ok x) c.offer.new.offers in
    refused_so c.args.parts.now c.put_back-in-Ok-None.new.parts c.args.end c.args.owed c.frame-frame.result (λ xs. g.W.Wire.reads c.args.wire.now xs c.offer.new.wire) (λ xs. g.W.Wire.writes c.args.wire.now xs c.offer.new.wire) (g.W.Wire.was_full c.args.wire.now c.offer.new.wire) c.args.offers.now c.offer.new.offers
    c.requires.may.acts c.requires.owes (c.frame-frame.ensures ∙ ap (λ (x : NodeState). owed_frame (x.stamp + 1) c.args.owed) c.parts.view_is) c.put_back-in-Ok-None.ensures c.offer.ensures.read.0 (subst E c.in-Ok-None.field-0-is c.in-Ok-None.ensures.told)

pub returns-in-Ok-Some : goal.returns-in-Ok-Some
returns-in-Ok-Some g c =
    let E : Option ℕ → Type 0 = λ x. OfferTold (λ xs. g.W.Wire.writes c.args.wire.now xs c.offer.new.wire) (g.W.Wire.was_full c.args.wire.now c.offer.new.wire) c.args.offers.now c.frame-frame.result (Ok x) c.offer.new.offers in
    pushed_so c.args.parts.now c.end_turn.new.parts c.args.end c.pay.new.end c.cable_of-cable.result c.args.owed c.frame-frame.result c.in-Ok-Some.extras [] c.nothing_done-told.result.choice c.nothing_done-told.result.delta (λ xs. g.W.Wire.reads c.args.wire.now xs c.offer.new.wire) (λ xs. g.W.Wire.writes c.args.wire.now xs c.offer.new.wire) (g.W.Wire.was_full c.args.wire.now c.offer.new.wire) c.args.offers.now c.offer.new.offers
    c.requires.may.acts c.requires.owes (c.frame-frame.ensures ∙ ap (λ (x : NodeState). owed_frame (x.stamp + 1) c.args.owed) c.parts.view_is) c.cable_of-cable.ensures c.pay.ensures refl c.nothing_done-told.ensures.choice c.nothing_done-told.ensures.delta c.end_turn.ensures c.offer.ensures.read.0 (subst E c.in-Ok-Some.field-0-is c.in-Ok-Some.ensures.told)
