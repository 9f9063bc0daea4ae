use Rattle.std.proofs.Common.{◌≡◌, take, drop, []}
use Rattle.mq_sc_parse.specs.Checks.{repeated_from}
use Rattle.mq_sc_parse.proofs.checks.first_repeated.Given as goal

abbrev pub invariant-loop-at : goal.invariant-loop-at
invariant-loop-at l = repeated_from l.verb l.kind (take l.at l.items) (drop l.at l.items) ≡ repeated_from l.verb l.kind [] l.items
