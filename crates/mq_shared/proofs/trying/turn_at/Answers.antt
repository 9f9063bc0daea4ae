use Rattle.std.proofs.Common.{List, [], subst}
use Rattle.mq_cable.specs.declared.item.Item.{Item}
use Rattle.mq_takes.specs.from_turn_parts.Unseen.{EndTurn}
use Rattle.mq_ruled.specs.Ends.{PipeEmpty, PipeEnds, PipeFull, PipeTook, PipeWrote}
use Rattle.mq_split.specs.Ends.{end_actor}
use Rattle.mq_split.specs.Took.{EndState}
use Rattle.mq_shared.proofs.trying.turn_at.Goals as goal

pub returns-clause-turn : goal.returns-clause-turn
returns-clause-turn g c =
    subst
    (λ (e : EndState).
    EndTurn (end_actor e.cable e.sends) (λ (xs : List Item). PipeTook e.wire xs c.turn_by.new.wire) (λ (xs : List Item). PipeWrote e.wire xs c.turn_by.new.wire) ((m : PipeEnds) × PipeEmpty e.wire m × PipeTook m [] c.turn_by.new.wire) (PipeFull e.wire c.turn_by.new.wire) e.offers
    c.turn_by.new.offers c.args.node.now c.turn_by.result c.turn_by.new.node)
    c.end.view_is c.turn_by.ensures
