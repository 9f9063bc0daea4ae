use Rattle.std.proofs.Common.{take}
use Rattle.mq_handles.specs.Users.{IsMore, weight_of, handle_weight}
use Rattle.mq_handles.proofs.users.Users.take_all.Given as goal

abbrev pub invariant-loop-handle : goal.invariant-loop-handle
invariant-loop-handle l = IsMore (λ key. weight_of (handle_weight key) (take l.handle-index l.handles)) l.self l.fn.self
