use Rattle.std.proofs.Common.{◌≡◌, ◌++◌, [], drop}
use Rattle.mq_core.specs.Views.{plain_of}
use Rattle.mq_takes.specs.Taken.{taken_behind}
use Rattle.mq_takes.proofs.taking.taken_in.Given as goal

abbrev pub invariant-loop-message : goal.invariant-loop-message
invariant-loop-message g l = l.taken ++ taken_behind l.taken (drop l.message-index l.batch) (plain_of l.fn.parts) ≡ taken_behind [] l.batch (plain_of l.fn.parts)
