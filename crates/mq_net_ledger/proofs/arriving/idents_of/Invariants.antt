use Rattle.std.proofs.Common.{◌≡◌, take}
use Rattle.mq_spec_network.specs.Ledger.{idents_of}
use Rattle.mq_net_ledger.proofs.arriving.idents_of.Given as goal

abbrev pub invariant-listing : goal.invariant-listing
invariant-listing l = l.idents ≡ idents_of (take l.message-index l.messages)
