use Rattle.mq_spec_manager.specs.Units.{removed_item}
use Rattle.mq_unit.proofs.UnitLaws.{TellsLeft}
use Rattle.mq_unit.proofs.effects.Effects.tell_all_removed.Given as goal

abbrev pub invariant-loop-item : goal.invariant-loop-item
invariant-loop-item l = TellsLeft removed_item l.unit l.item-index l.fn.self l.self
