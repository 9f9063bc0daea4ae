use Rattle.mq_spec_manager.specs.Units.{released_did}
use Rattle.mq_unit.proofs.UnitLaws.{TellsLeft}
use Rattle.mq_unit.proofs.effects.Effects.tell_all_released.Given as goal

abbrev pub invariant-loop-item : goal.invariant-loop-item
invariant-loop-item l = TellsLeft released_did l.unit l.item-index l.fn.self l.self
