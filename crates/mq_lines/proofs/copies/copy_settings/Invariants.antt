use Rattle.std.proofs.Common.{◌≡◌, take}
use Rattle.mq_lines.proofs.copies.copy_settings.Given as goal

abbrev pub invariant-loop-setting : goal.invariant-loop-setting
invariant-loop-setting l = l.copies ≡ take l.setting-index l.setting-items
