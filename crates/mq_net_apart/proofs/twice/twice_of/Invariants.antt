use Rattle.std.proofs.Common.{◌≡◌, take}
use Rattle.mq_message.specs.declared.message.Ident.{Ident}
use Rattle.mq_shelves.specs.Spots.{is_met}
use Rattle.mq_net_apart.specs.Twice.{met_in, twice_in}
use Rattle.mq_net_apart.proofs.twice.twice_of.Given as goal

abbrev pub invariant-loop-ident : goal.invariant-loop-ident
invariant-loop-ident l = record {
  met : (k : Ident) → is_met l.met k ≡ met_in (take l.ident-index l.idents) k;
  twice : (k : Ident) → is_met l.twice k ≡ twice_in (take l.ident-index l.idents) k;
}
