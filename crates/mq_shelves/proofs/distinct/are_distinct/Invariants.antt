use Rattle.std.proofs.Common.{◌≡◌, drop}
use Rattle.mq_spec_log.specs.Applies.{are_distinct}
use Rattle.mq_shelves.specs.Spots.{are_new, is_met}
use Rattle.mq_shelves.proofs.distinct.are_distinct.Given as goal

abbrev pub invariant-loop-ident : goal.invariant-loop-ident
invariant-loop-ident l = are_distinct l.fn.idents ≡ are_new (is_met l.met) (drop l.ident-index l.fn.idents)
