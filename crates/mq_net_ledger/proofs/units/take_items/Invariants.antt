use Rattle.std.proofs.Common.{◌≡◌, drop}
use Rattle.mq_spec_network.specs.Ledger.{take_items}
use Rattle.mq_net_ledger.proofs.units.take_items.Given as goal

abbrev pub invariant-loop-item : goal.invariant-loop-item
invariant-loop-item l = take_items l.m (drop l.item-index l.items) l.books ≡ take_items l.m l.fn.items l.fn.books
