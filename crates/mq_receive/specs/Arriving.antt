-- A message that is placed, as the code has it.
use Rattle.std.specs.Prelude.{◌≡◌, ℕ, List, Option, Result, Ok, Err}
use Rattle.mq_calls.specs.declared.agents.PlaceFault.TheVariants as place_faults
use Rattle.mq_calls.specs.declared.agents.AgentStop.TheVariants as agent_stops
use Rattle.mq_calls.specs.Words.{Reason}
use Rattle.mq_calls.specs.declared.agents.PlaceFault.{PlaceFault}
use Rattle.mq_spec_manager.specs.Agents.{Landing}
use Rattle.mq_core.specs.declared.parts.Arrival.{Arrival}
use Rattle.mq_core.specs.Writes.{landing_of}

-- a message lands so, and this row goes for it; or it is refused; or there was no memory
abbrev pub Lands : Result Landing Reason → Option (List ℕ) → Result Arrival PlaceFault → Type 0
Lands where_it dropped (Ok a) = (where_it ≡ Ok (landing_of a)) × (a.dropped ≡ dropped)
Lands where_it dropped (Err (place_faults.Refused reason)) = where_it ≡ Err reason
Lands where_it dropped (Err (place_faults.Stop stop)) = stop ≡ agent_stops.NoMemory
