use Rattle.mq_unit.proofs.UnitLaws.{RemovesLeft}
use Rattle.mq_unit.proofs.record.put_removes.Given as goal

abbrev pub invariant-loop-item : goal.invariant-loop-item
invariant-loop-item l = RemovesLeft l.items l.item-index l.fn.body l.body
