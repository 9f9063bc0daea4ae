use Rattle.std.proofs.Common.{length, ◌≡◌}
use Rattle.std.specs.Prelude.{filter}
use Rattle.mq_cable.specs.Offers.{due_of, is_left}
use Rattle.mq_cable.proofs.push.drop_due.Given as goal

abbrev pub invariant-dropping : goal.invariant-dropping
invariant-dropping l = record {
  left : filter (is_left l.frame) l.kept.items ≡ filter (is_left l.fn.frame) l.fn.kept.items;
  frame : l.frame ≡ l.fn.frame;
}

abbrev pub decreases-dropping : goal.decreases-dropping
decreases-dropping l = length (due_of l.frame l.kept.items)
