use Rattle.std.proofs.Common.{◌≡◌, ◌-◌}
use Rattle.mq_frame.specs.Reading.{ident_at}
use Rattle.mq_record.specs.Reading.{several_at}
use Rattle.mq_record.proofs.LoopLaws.{with_front}
use Rattle.mq_record.proofs.lists.several_idents.Given as goal

abbrev pub invariant-idents : goal.invariant-idents
invariant-idents l = with_front l.idents (several_at ident_at (l.count - l.counter) l.rest) ≡ several_at ident_at l.count l.bytes
