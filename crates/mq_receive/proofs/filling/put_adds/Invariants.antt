use Rattle.mq_receive.proofs.FillLaws.{AddsLeft}
use Rattle.mq_receive.proofs.filling.put_adds.Given as goal

abbrev pub invariant-loop-message : goal.invariant-loop-message
invariant-loop-message l = AddsLeft l.landed l.message-index l.fn.body l.body
