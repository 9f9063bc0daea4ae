use Rattle.std.proofs.Common.{◌≡◌, drop}
use Rattle.mq_spec_network.specs.Standing.{cable_named}
use Rattle.mq_net_conflict.proofs.openings.cable_named.Given as goal

abbrev pub invariant-loop-cable : goal.invariant-loop-cable
invariant-loop-cable l = cable_named l.channel (drop l.cable-index l.cables) ≡ cable_named l.channel l.fn.cables
