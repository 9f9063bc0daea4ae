use Rattle.std.proofs.Common.{◌≡◌, ◌++◌, drop, map}
use Rattle.mq_get.specs.Leaving.{met_ident}
use Rattle.mq_get.proofs.leaving.idents_of.Given as goal

abbrev pub invariant-loop-met : goal.invariant-loop-met
invariant-loop-met l = l.idents ++ map met_ident (drop l.met-index l.mets) ≡ map met_ident l.mets
