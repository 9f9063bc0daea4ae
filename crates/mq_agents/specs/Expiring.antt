-- Rows that leave a sender's queue because their deadlines have come.
use Rattle.std.specs.Prelude.{ℕ, Bool, Option, Some, None}
use Rattle.mq_disk.specs.declared.cutter.Stop.{Stop}
use Rattle.mq_calls.specs.declared.commands.Halt.TheVariants as halts
use Rattle.mq_calls.specs.declared.agents.AgentStop.TheVariants as agent_stops
use Rattle.mq_calls.specs.Words.{Reason, Row, is_past}
use Rattle.mq_calls.specs.declared.agents.AgentStop.{AgentStop}
use Rattle.mq_calls.specs.declared.commands.Halt.{Halt}
use Rattle.mq_agents.specs.Ends.{stopped_agent}

-- its deadline has come
abbrev pub is_past_row : ℕ → Row → Bool
is_past_row moment row = is_past moment row.message.deadline

-- how a call ended that is not refused
abbrev pub agent_of_halt : Halt Reason → AgentStop
agent_of_halt (halts.Refused reason) = agent_stops.NoMemory
agent_of_halt halts.NoMemory = agent_stops.NoMemory
agent_of_halt (halts.Stopped stop) = stopped_agent stop

abbrev pub stop_of_halt : Halt Reason → Option Stop
stop_of_halt (halts.Refused reason) = None
stop_of_halt halts.NoMemory = None
stop_of_halt (halts.Stopped stop) = Some stop
