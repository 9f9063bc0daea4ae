use Rattle.std.proofs.Common.{take}
use Rattle.mq_handles.specs.Users.{IsMore, path_weight}
use Rattle.mq_handles.proofs.users.Users.take_path.Given as goal

abbrev pub invariant-loop-step : goal.invariant-loop-step
invariant-loop-step l = IsMore (path_weight (take l.step-index l.path)) l.self l.fn.self
