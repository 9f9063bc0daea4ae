-- What is seen of a cable between two nodes whose histories are kept.
use Rattle.std.specs.Prelude.{ℕ}
use Rattle.mq_history.specs.declared.scenario.CableLine.{CableLine}
use Rattle.mq_spec_network.specs.Turns.{Network}
use Rattle.mq_events.specs.States.{NodeState, node_in}
use Rattle.mq_ways.specs.Ways.{CableState}
use Rattle.mq_idle.specs.Idle.{IsSeenAs}

abbrev pub IsSightOf : Network → ℕ → CableLine → NodeState → NodeState → CableState → Type 0
IsSightOf w k l s r c = IsSeenAs w k l (node_in s) (node_in r) c
