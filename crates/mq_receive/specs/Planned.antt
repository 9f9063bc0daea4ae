-- A batch of which some messages have landed, in the plan of its commit.
use Rattle.std.specs.Prelude.{◌≡◌, ℕ, List, [], Result, Ok, Err}
use Rattle.mq_calls.specs.declared.agents.PlaceFault.TheVariants as place_faults
use Rattle.mq_calls.specs.declared.agents.AgentStop.TheVariants as agent_stops
use Rattle.mq_calls.specs.Words.{Message, Reason, Plain}
use Rattle.mq_calls.specs.declared.agents.PlaceFault.{PlaceFault}
use Rattle.mq_spec_manager.specs.Agents.{Landed, landed, standing_at}
use Rattle.mq_law_manager.specs.Facts.{Sound, AreNamed}
use Rattle.mq_core.specs.declared.parts.Arrival.{Arrival}
use Rattle.mq_receive.specs.Ahead.{IsAhead}
use Rattle.mq_receive.specs.Leading.{Leads}
use Rattle.mq_receive.specs.Standings.{standing_among, AreFitting, behind_all}

-- these have landed, and the whole batch comes to what these and the rest come to
pub record IsPlan (whole : Result Landed Reason) (channel : List ℕ) (done : List Arrival) (rest : List Message) (p : Plain) : Type 0 where
  pub leads : Leads whole done (landed channel rest (behind_all done p))
  pub ahead : IsAhead done p (behind_all done p)
  pub sound : Sound (behind_all done p)
  pub named : AreNamed (behind_all done p).queues
  pub stands : (m : Message) → standing_at m (behind_all done p) ≡ standing_among done m p
  pub fits : AreFitting done p

-- one message more has landed or was left out; or the batch is refused; or there was no memory
abbrev pub Goes : Result Landed Reason → List ℕ → List Message → Plain → Result (Unit {0}) PlaceFault → List Arrival → Type 0
Goes whole channel rest p (Ok _) done = IsPlan whole channel done rest p
Goes whole channel rest p (Err (place_faults.Refused reason)) done = whole ≡ Err reason
Goes whole channel rest p (Err (place_faults.Stop stop)) done = stop ≡ agent_stops.NoMemory

-- the whole batch
abbrev pub Plans : List ℕ → List Message → Plain → Result (List Arrival) PlaceFault → Type 0
Plans channel batch p (Ok done) = IsPlan (landed channel batch p) channel done [] p
Plans channel batch p (Err (place_faults.Refused reason)) = landed channel batch p ≡ Err reason
Plans channel batch p (Err (place_faults.Stop stop)) = stop ≡ agent_stops.NoMemory
