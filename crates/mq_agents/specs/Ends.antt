-- What the calls of channel ends and of the handler answer, as the steps' own answers.
use Rattle.std.specs.Prelude.{◌≡◌, ℕ, Bool, ◌&&◌, List, [], ◌∷◌, Option, Some, None, Result, Ok, Err}
use Rattle.mq_base.specs.declared.want.NoMemory.{NoMemory}
use Rattle.mq_disk.specs.declared.cutter.Stop.{Stop}
use Rattle.mq_disk.specs.declared.cutter.Stop.TheVariants as stops
use Rattle.mq_calls.specs.Words.{Ident, Holder, Reason, Message, Place, Row, SenderData, ReceiverData, ChannelData, Plain, Refuse, Do, silent, is_free, is_past}
use Rattle.mq_calls.specs.declared.deltas.Did.{Did}
use Rattle.mq_calls.specs.declared.commands.Halt.{Halt}
use Rattle.mq_calls.specs.declared.agents.AgentStop.{AgentStop}
use Rattle.mq_calls.specs.declared.agents.SeizeFault.{SeizeFault}
use Rattle.mq_calls.specs.declared.agents.PrepareFault.{PrepareFault}
use Rattle.mq_calls.specs.declared.agents.PlaceFault.{PlaceFault}
use Rattle.mq_calls.specs.State.Change.{Seize}
use Rattle.mq_calls.specs.declared.agents.AgentStop.TheVariants as agent_stops
use Rattle.mq_calls.specs.declared.agents.SeizeFault.TheVariants as seize_faults
use Rattle.mq_calls.specs.declared.agents.PrepareFault.TheVariants as prepare_faults
use Rattle.mq_calls.specs.declared.agents.PlaceFault.TheVariants as place_faults
use Rattle.mq_calls.specs.declared.commands.Halt.TheVariants as halts
use Rattle.mq_calls.specs.declared.deltas.Did.TheVariants as did
use Rattle.mq_spec_manager.specs.Words.{Never}
use Rattle.mq_spec_manager.specs.Agents.{seize}

-- how a call ends that is not refused
abbrev pub halt_of : {F : Type 0} → AgentStop → Halt F
halt_of agent_stops.Disk = halts.Stopped stops.Disk
halt_of agent_stops.Cut = halts.Stopped stops.Cut
halt_of agent_stops.NoMemory = halts.NoMemory

abbrev pub stopped_agent : Stop → AgentStop
stopped_agent stops.Cut = agent_stops.Cut
stopped_agent stops.Disk = agent_stops.Disk

abbrev pub by_agent : {T : Type 0} → Result T AgentStop → Result T (Halt Never)
by_agent (Ok value) = Ok value
by_agent (Err stop) = Err (halt_of stop)

abbrev pub by_memory : {T : Type 0} → Result T NoMemory → Result T (Halt Never)
by_memory (Ok value) = Ok value
by_memory (Err _) = Err halts.NoMemory

-- and one that may be
abbrev pub seize_halt : SeizeFault → Halt SeizeFault
seize_halt seize_faults.BadQueue = halts.Refused seize_faults.BadQueue
seize_halt seize_faults.QueueInUse = halts.Refused seize_faults.QueueInUse
seize_halt seize_faults.NoMemory = halts.NoMemory

abbrev pub by_seize : {T : Type 0} → Result T SeizeFault → Result T (Halt SeizeFault)
by_seize (Ok value) = Ok value
by_seize (Err fault) = Err (seize_halt fault)

abbrev pub prepare_halt : PrepareFault → Halt PrepareFault
prepare_halt prepare_faults.NoRoom = halts.Refused prepare_faults.NoRoom
prepare_halt (prepare_faults.Stop stop) = halt_of stop

abbrev pub by_prepare : {T : Type 0} → Result T PrepareFault → Result T (Halt PrepareFault)
by_prepare (Ok value) = Ok value
by_prepare (Err fault) = Err (prepare_halt fault)

abbrev pub place_halt : PlaceFault → Halt Reason
place_halt (place_faults.Refused reason) = halts.Refused reason
place_halt (place_faults.Stop stop) = halt_of stop

abbrev pub by_place : {T : Type 0} → Result T PlaceFault → Result T (Halt Reason)
by_place (Ok value) = Ok value
by_place (Err fault) = Err (place_halt fault)

-- what is kept of a channel's ends, as it is told: both of them, where anything is
abbrev pub kept_of : Option (Option SenderData × Option ReceiverData) → Option ChannelData
kept_of None = None
kept_of (Some k) = Some (record { sender = k.0; receiver = k.1 })

-- a row that the handler sees
abbrev pub place_and_message : Row → Place × Message
place_and_message row = (row.place, row.message)

-- a free row that has expired
abbrev pub is_free_past : ℕ → Row → Bool
is_free_past moment row = is_free row && is_past moment row.message.deadline

-- a sender's start: refused, or its queue is seized
abbrev pub Seizes : List ℕ → Plain → Result (List ℕ) SeizeFault → Type 0
Seizes channel p (Ok queue) = seize channel p ≡ Do tt (silent (Seize (record { channel = channel; queue = queue }) ∷ []) ∷ [])
Seizes channel p (Err fault) = seize channel p ≡ Refuse fault

-- a row is held
abbrev pub held_did : List ℕ → Holder → Ident → Did
held_did queue by ident = did.Held queue ident by
