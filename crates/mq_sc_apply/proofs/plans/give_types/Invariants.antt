use Rattle.std.proofs.Common.{◌≡◌, drop, filter}
use Rattle.mq_calls.specs.from_objects.Settings.{set_all}
use Rattle.mq_sc_apply.specs.Planned.{is_type_setting}
use Rattle.mq_sc_apply.proofs.plans.give_types.Given as goal

abbrev pub invariant-loop-setting : goal.invariant-loop-setting
invariant-loop-setting l = set_all (filter is_type_setting (drop l.setting-index l.settings)) l.object ≡ set_all (filter is_type_setting l.settings) l.fn.object
