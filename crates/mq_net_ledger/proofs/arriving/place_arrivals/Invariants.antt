use Rattle.std.proofs.Common.{◌≡◌}
use Rattle.std.specs.Prelude.{reverse, length}
use Rattle.mq_net_ledger.specs.Arrivals.{place_arrivals}
use Rattle.mq_net_ledger.proofs.arriving.place_arrivals.Given as goal

abbrev pub invariant-landing : goal.invariant-landing
invariant-landing l = place_arrivals l.m l.channel (reverse l.left.items) l.books ≡ place_arrivals l.m l.channel l.fn.arrivals l.fn.books

abbrev pub decreases-landing : goal.decreases-landing
decreases-landing l = length l.left.items
