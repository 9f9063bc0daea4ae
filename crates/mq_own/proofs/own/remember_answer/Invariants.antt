use Rattle.std.proofs.Common.{◌≡◌, ◌++◌, take, drop}
use Rattle.std.specs.Prelude.{map}
use Rattle.mq_own.specs.Views.{remembering}
use Rattle.mq_own.proofs.own.remember_answer.Given as goal

abbrev pub invariant-loop-at : goal.invariant-loop-at
invariant-loop-at l = l.monitors ≡ map (remembering l.number l.call l.reply) (take l.at l.fn.monitors) ++ drop l.at l.fn.monitors
