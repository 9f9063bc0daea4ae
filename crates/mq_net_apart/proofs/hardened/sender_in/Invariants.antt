use Rattle.std.proofs.Common.{◌≡◌, drop}
use Rattle.mq_calls.specs.Reads.{sender_in}
use Rattle.mq_net_apart.proofs.hardened.sender_in.Given as goal

abbrev pub invariant-loop-side : goal.invariant-loop-side
invariant-loop-side l = sender_in l.channel (drop l.side-index l.sides) ≡ sender_in l.channel l.fn.sides
