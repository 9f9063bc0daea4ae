use Rattle.std.proofs.Common.{◌≡◌, ◌-◌}
use Rattle.mq_record.specs.Reading.{remove_at}
use Rattle.mq_record.specs.Reading.{several_at}
use Rattle.mq_record.proofs.LoopLaws.{with_front}
use Rattle.mq_record.proofs.lists.several_removes.Given as goal

abbrev pub invariant-removes : goal.invariant-removes
invariant-removes l = with_front l.removes (several_at remove_at (l.count - l.counter) l.rest) ≡ several_at remove_at l.count l.bytes
