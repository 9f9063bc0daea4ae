use Rattle.std.specs.List.{flat_map}
use Rattle.mq_core.specs.Views.{plain_of}
use Rattle.mq_core.specs.Writes.{arrival_adds}
use Rattle.mq_redo.specs.Redone.{arrived_of}
use Rattle.mq_redo.proofs.TellLaws.{TellsTwice}
use Rattle.mq_redo.proofs.arrivals.tell_all_arrived.Given as goal

abbrev pub invariant-loop-arrival : goal.invariant-loop-arrival
invariant-loop-arrival g l = TellsTwice (arrived_of (flat_map arrival_adds l.landed) (plain_of l.parts)) l.landed l.arrival-index l.fn.effects l.effects
