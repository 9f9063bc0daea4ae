use Rattle.std.proofs.Common.{◌≡◌, ◌++◌, drop}
use Rattle.mq_owned.specs.Owned.{begun_from}
use Rattle.mq_owned.proofs.ends.ends_of.Given as goal

abbrev pub invariant-loop-number : goal.invariant-loop-number
invariant-loop-number g l = l.ends ++ begun_from l.core.plain l.scenario l.manager l.number (drop l.number l.scenario.cables) ≡ begun_from l.core.plain l.scenario l.manager 0 l.scenario.cables
