use Rattle.std.specs.Prelude.{List, ◌++◌, ◌≤◌, length, [], ◌⊎◌, ◌≡◌}
use Rattle.std.proofs.Common.{ap, subst, sym, ◌∙◌}
use Rattle.mq_cable.specs.declared.item.Item.{Item}
use Rattle.mq_history.specs.declared.calls.Actor.TheVariants as actors
use Rattle.mq_ways.specs.Ways.{CableState}
use Rattle.mq_world.specs.Ends.{SideTurn, far_sides}
use Rattle.mq_world.proofs.EndLaws.{side_turn}
use Rattle.mq_world.proofs.ends.far_turn.Goals as goal

-- what lies there then
pub returns-clause-told : goal.returns-clause-told
returns-clause-told g c =
    subst (λ (v : CableState). SideTurn (actors.Receiver c.args.cable) (far_sides v) (far_sides (record { out = record { items = c.turn_round-2.new.wire.write; offers = c.ways.inside.out }; back = record { items = c.turn_round-2.new.wire.read; offers = c.receiver_turn-turn.new.offers } })) c.args.node.now c.receiver_turn-turn.result c.receiver_turn-turn.new.node) c.ways.view_is
    (side_turn (actors.Receiver c.args.cable) (record { read = record { items = c.ways.inside.wire.write; offers = c.ways.inside.out }; write = record { items = c.ways.inside.wire.read; offers = c.ways.inside.back } })
    (record { read = record { items = c.turn_round-2.new.wire.write; offers = c.ways.inside.out }; write = record { items = c.turn_round-2.new.wire.read; offers = c.receiver_turn-turn.new.offers } }) _ _ _ _ c.args.node.now c.receiver_turn-turn.result c.receiver_turn-turn.new.node
    (λ xs t. sym c.begin.ensures.write ∙ sym c.turn_round.ensures.read ∙ t.whole ∙ ap (λ (zs : List Item). xs ++ zs) (sym c.turn_round-2.ensures.write))
    (λ xs t. record {
      whole = c.turn_round-2.ensures.read ∙ t.whole ∙ ap (λ (zs : List Item). zs ++ xs) (c.turn_round.ensures.write ∙ c.begin.ensures.read);
      room = subst (λ (zs : List Item). (xs ≡ []) ⊎ (length zs ≤ 64)) (sym c.turn_round-2.ensures.read) t.room;
    })
    (λ p. c.turn_round-2.ensures.write ∙ sym p.2.whole ∙ p.1.none) (λ p. subst (λ (zs : List Item). 64 ≤ length zs) (sym c.turn_round-2.ensures.read) p.most) c.receiver_turn-turn.ensures)
