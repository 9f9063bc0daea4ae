use Rattle.std.proofs.Common.{◌≡◌}
use Rattle.std.specs.Prelude.{reverse, length}
use Rattle.mq_recover_read.specs.from_spec_log.Applies.{can_add_all}
use Rattle.mq_recover_read.specs.from_spec_log.Shelves.{added_all}
use Rattle.mq_recover.specs.Recovering.{seen}
use Rattle.mq_recover.proofs.recovering.Recovering.add_all.Given as goal

abbrev pub invariant-loop-add : goal.invariant-loop-add
invariant-loop-add l = record {
  may : can_add_all l.fn.adds (seen l.fn.self) ≡ can_add_all (reverse l.left.items) (seen l.self);
  made : added_all l.fn.adds (seen l.fn.self) ≡ added_all (reverse l.left.items) (seen l.self);
}

abbrev pub decreases-loop-add : goal.decreases-loop-add
decreases-loop-add l = length l.left.items
