use Rattle.std.proofs.Common.{take}
use Rattle.mq_handles.specs.Users.{IsMore, path_weight}
use Rattle.mq_handles.proofs.users.Users.add_path.Given as goal

abbrev pub invariant-loop-at : goal.invariant-loop-at
invariant-loop-at l = IsMore (path_weight (take l.at l.path)) l.fn.self l.self
