use Rattle.std.proofs.Common.{◌≡◌, drop}
use Rattle.mq_calls.specs.Reads.{receiver_in}
use Rattle.mq_net_conflict.proofs.openings.receiver_in.Given as goal

abbrev pub invariant-loop-side : goal.invariant-loop-side
invariant-loop-side l = receiver_in l.channel (drop l.side-index l.sides) ≡ receiver_in l.channel l.fn.sides
