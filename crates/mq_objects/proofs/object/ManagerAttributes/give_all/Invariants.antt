use Rattle.std.proofs.Common.{◌≡◌, drop}
use Rattle.mq_objects.specs.Settings.{set_all_manager}
use Rattle.mq_objects.proofs.object.ManagerAttributes.give_all.Given as goal

abbrev pub invariant-loop-setting : goal.invariant-loop-setting
invariant-loop-setting l = set_all_manager (drop l.setting-index l.settings) l.self ≡ set_all_manager l.settings l.initial.self
