use Rattle.std.proofs.Common.{◌≡◌, ◌++◌, take, map}
use Rattle.mq_net_stands.specs.Replies.{shown_byte}
use Rattle.mq_net_stands.proofs.replies.put_shown.Given as goal

abbrev pub invariant-showing : goal.invariant-showing
invariant-showing l = l.out ≡ l.fn.out ++ map shown_byte (take l.b-index l.front)
