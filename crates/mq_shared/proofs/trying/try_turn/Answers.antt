use Rattle.mq_shared.proofs.TriedLaws.{on_ok, turn_lost}
use Rattle.mq_shared.proofs.trying.try_turn.Goals as goal

pub returns-then-holds_item-clause-tried : goal.returns-then-holds_item-clause-tried
returns-then-holds_item-clause-tried g c = turn_lost _ _ _ _ _ _ c.served_turn-turn.result _ c.served_turn-turn.ensures

pub returns-clause-free : goal.returns-clause-free
returns-clause-free g c = on_ok _ c.served_turn-turn.result (c.holds_item.ensures c.if-holds_item.false)
