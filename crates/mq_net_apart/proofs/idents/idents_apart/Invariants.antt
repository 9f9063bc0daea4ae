use Rattle.std.proofs.Common.{◌≡◌, drop}
use Rattle.mq_spec_network.specs.Standing.{opening_managers}
use Rattle.mq_spec_network.specs.Apart.{idents_apart}
use Rattle.mq_net_apart.proofs.idents.idents_apart.Given as goal

abbrev pub invariant-loop-ident : goal.invariant-loop-ident
invariant-loop-ident l = idents_apart (opening_managers l.scenario l.histories) l.standing (drop l.ident-index l.idents) ≡ idents_apart (opening_managers l.scenario l.histories) l.standing l.fn.idents
