use Rattle.std.proofs.Common.{◌≡◌, ◌+◌, drop}
use Rattle.mq_spec_network.specs.Standing.{cable_from}
use Rattle.mq_net_apart.proofs.rows.cable_from.Given as goal

abbrev pub invariant-loop-cable : goal.invariant-loop-cable
invariant-loop-cable l = cable_from (l.at + 1) l.channel (drop l.cable-index l.cables) ≡ cable_from (l.at + 1) l.channel l.fn.cables
