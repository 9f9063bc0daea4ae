use Rattle.std.proofs.Common.{◌≡◌, subst}
use Rattle.std.specs.Prelude.{Option, IfOk}
use Rattle.mq_unit.specs.from_calls.Words.{SenderData, sender_or}
use Rattle.mq_sides.proofs.named.sender_data.Goals as goal

pub returns : goal.returns
returns c = subst (λ (o : Option SenderData). IfOk c.sender_or_blank.result (λ (d : SenderData). d ≡ sender_or o)) c.sender_of.ensures c.sender_or_blank.ensures
