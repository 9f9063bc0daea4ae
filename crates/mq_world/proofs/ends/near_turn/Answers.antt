use Rattle.std.specs.Prelude.{List, ◌++◌}
use Rattle.std.proofs.Common.{ap, subst, sym, ◌∙◌}
use Rattle.mq_cable.specs.declared.item.Item.{Item}
use Rattle.mq_history.specs.declared.calls.Actor.TheVariants as actors
use Rattle.mq_ways.specs.Ways.{CableState}
use Rattle.mq_world.specs.Ends.{SideTurn, near_sides}
use Rattle.mq_world.proofs.EndLaws.{side_turn}
use Rattle.mq_world.proofs.ends.near_turn.Goals as goal

-- what lies there then
pub returns-clause-told : goal.returns-clause-told
returns-clause-told g c =
    subst (λ (v : CableState). SideTurn (actors.Sender c.args.cable) (near_sides v) (near_sides (record { out = record { items = c.sender_turn.new.wire.write; offers = c.sender_turn.new.offers }; back = record { items = c.sender_turn.new.wire.read; offers = c.ways.inside.back } })) c.args.node.now c.sender_turn.result c.sender_turn.new.node) c.ways.view_is
    (side_turn (actors.Sender c.args.cable) (record { read = record { items = c.ways.inside.wire.read; offers = c.ways.inside.back }; write = record { items = c.ways.inside.wire.write; offers = c.ways.inside.out } })
    (record { read = record { items = c.sender_turn.new.wire.read; offers = c.ways.inside.back }; write = record { items = c.sender_turn.new.wire.write; offers = c.sender_turn.new.offers } }) _ _ _ _ c.args.node.now c.sender_turn.result c.sender_turn.new.node
    (λ xs t. sym c.begin.ensures.read ∙ t.whole) (λ xs t. record { whole = t.whole ∙ ap (λ (zs : List Item). zs ++ xs) c.begin.ensures.write; room = t.room }) (λ p. sym p.2.whole ∙ p.1.none) (λ p. p.most) c.sender_turn.ensures)
