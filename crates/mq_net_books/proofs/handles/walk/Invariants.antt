use Rattle.std.proofs.Common.{◌≡◌, drop}
use Rattle.mq_calls.specs.Reads.{handle_at}
use Rattle.mq_net_books.proofs.handles.walk.Given as goal

abbrev pub invariant-loop-handle : goal.invariant-loop-handle
invariant-loop-handle l = handle_at l.number (drop l.handle-index l.handles) ≡ handle_at l.number l.fn.handles
