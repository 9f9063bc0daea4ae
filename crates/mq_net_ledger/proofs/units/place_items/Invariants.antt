use Rattle.std.proofs.Common.{◌≡◌}
use Rattle.std.specs.Prelude.{reverse, length}
use Rattle.mq_spec_network.specs.Ledger.{place_items}
use Rattle.mq_net_ledger.proofs.units.place_items.Given as goal

abbrev pub invariant-placing : goal.invariant-placing
invariant-placing l = place_items l.m (reverse l.left.items) l.books ≡ place_items l.m l.fn.items l.fn.books

abbrev pub decreases-placing : goal.decreases-placing
decreases-placing l = length l.left.items
