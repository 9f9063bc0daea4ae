use Rattle.std.proofs.Common.{◌≡◌, drop}
use Rattle.mq_net_ledger.specs.Spots.{ledger_spots}
use Rattle.mq_net_ledger.proofs.ledger.post_spots.Given as goal

abbrev pub invariant-posting : goal.invariant-posting
invariant-posting l = ledger_spots l.histories (drop l.spot-index l.spots) l.books ≡ ledger_spots l.histories l.fn.spots l.fn.books
