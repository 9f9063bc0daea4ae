use Rattle.std.proofs.Common.{refl}
use Rattle.mq_spec_manager.specs.Units.{placed_did}
use Rattle.mq_unit.proofs.UnitLaws.{tell_fits, tell_one}
use Rattle.mq_unit.proofs.effects.Effects.tell_all_placed.Goals as goal

pub loop-item-init : goal.loop-item-init
loop-item-init c = record { dids = refl; room = c.requires }

pub tell_placed-requires : goal.tell_placed-requires
tell_placed-requires c = tell_fits placed_did _ _ _ _ _ c.loop-item-test.true c.item-item.is c.loop-item.invariant

pub loop-item-preserved : goal.loop-item-preserved
loop-item-preserved c = tell_one placed_did _ _ _ _ _ _ c.loop-item-test.true c.item-item.is c.tell_placed.ensures c.loop-item.invariant
