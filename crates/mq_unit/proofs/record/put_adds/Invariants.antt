use Rattle.mq_unit.proofs.UnitLaws.{AddsLeft}
use Rattle.mq_unit.proofs.record.put_adds.Given as goal

abbrev pub invariant-loop-item : goal.invariant-loop-item
invariant-loop-item l = AddsLeft l.items l.item-index l.fn.body l.body
