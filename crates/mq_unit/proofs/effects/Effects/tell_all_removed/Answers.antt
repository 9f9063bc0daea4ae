use Rattle.std.proofs.Common.{refl}
use Rattle.mq_spec_manager.specs.Units.{removed_item}
use Rattle.mq_unit.proofs.UnitLaws.{tell_fits, tell_one}
use Rattle.mq_unit.proofs.effects.Effects.tell_all_removed.Goals as goal

pub loop-item-init : goal.loop-item-init
loop-item-init c = record { dids = refl; room = c.requires }

pub tell_removed-requires : goal.tell_removed-requires
tell_removed-requires c = tell_fits removed_item _ _ _ _ _ c.loop-item-test.true c.item-item.is c.loop-item.invariant

pub loop-item-preserved : goal.loop-item-preserved
loop-item-preserved c = tell_one removed_item _ _ _ _ _ _ c.loop-item-test.true c.item-item.is c.tell_removed.ensures c.loop-item.invariant
