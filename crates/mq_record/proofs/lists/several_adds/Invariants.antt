use Rattle.std.proofs.Common.{◌≡◌, ◌-◌}
use Rattle.mq_record.specs.Reading.{add_at}
use Rattle.mq_record.specs.Reading.{several_at}
use Rattle.mq_record.proofs.LoopLaws.{with_front}
use Rattle.mq_record.proofs.lists.several_adds.Given as goal

abbrev pub invariant-adds : goal.invariant-adds
invariant-adds l = with_front l.adds (several_at add_at (l.count - l.counter) l.rest) ≡ several_at add_at l.count l.bytes
