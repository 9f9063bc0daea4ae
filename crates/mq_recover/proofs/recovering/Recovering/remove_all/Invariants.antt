use Rattle.std.proofs.Common.{◌≡◌, drop}
use Rattle.mq_recover_read.specs.from_spec_log.Applies.{can_remove_all}
use Rattle.mq_recover_read.specs.from_spec_log.Shelves.{removed_all}
use Rattle.mq_recover.specs.Recovering.{seen}
use Rattle.mq_recover.proofs.recovering.Recovering.remove_all.Given as goal

abbrev pub invariant-loop-remove : goal.invariant-loop-remove
invariant-loop-remove l = record {
  may : can_remove_all l.removes (seen l.fn.self) ≡ can_remove_all (drop l.remove-index l.removes) (seen l.self);
  made : removed_all l.removes (seen l.fn.self) ≡ removed_all (drop l.remove-index l.removes) (seen l.self);
}
