use Rattle.std.proofs.Common.{◌≡◌, drop}
use Rattle.mq_objects.specs.Settings.{set_all}
use Rattle.mq_objects.proofs.object.Object.give_all.Given as goal

abbrev pub invariant-loop-setting : goal.invariant-loop-setting
invariant-loop-setting l = set_all (drop l.setting-index l.settings) l.self ≡ set_all l.settings l.initial.self
