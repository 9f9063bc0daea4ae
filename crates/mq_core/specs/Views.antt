-- The plain manager that a manager's parts stand for.
use Rattle.std.specs.Prelude.{ℕ, Bool, List, [], Option, Some, None}
use Rattle.mq_calls.specs.Words.{Plain, Channels, Part, Noted, Running, Up, Down, connection_at, batch_of, note_of}
use Rattle.mq_calls.specs.declared.state.Batch.{Batch}
use Rattle.mq_calls.specs.declared.state.Connection.{Connection}
use Rattle.mq_spec_manager.specs.Words.{object_part}
use Rattle.mq_calls.specs.from_objects.Held.{Held}
use Rattle.mq_log.specs.State.{LogState, log_length}
use Rattle.mq_sides.specs.from_record.Room.{Buffered}
use Rattle.mq_trigger.specs.from_handles.Desks.{Desk}
use Rattle.mq_place.specs.States.{QueueStates, queues_of}
use Rattle.mq_core.specs.declared.parts.StoppedWrite.{StoppedWrite}
use Rattle.mq_core.specs.declared.parts.StoppedWrite.TheVariants as writes
use Rattle.mq_core.specs.declared.parts.ReadLog.{ReadLog}
use Rattle.mq_core.specs.declared.parts.Mode.{Mode}
use Rattle.mq_core.specs.declared.parts.Mode.TheVariants as modes
use Rattle.mq_core.specs.declared.parts.ChannelEnds.{ChannelEnds}
use Rattle.mq_spec_manager.specs.Agents.{harden_part, move_part, received_part}
use Rattle.mq_core.specs.Writes.{now_part, ended_part, gone_part, settled_part, batch_part, all_landed}

-- the parts, with the room that was taken
pub record PartsValue : Type 0 where
  pub number : ℕ
  pub name : List ℕ
  pub mode : Mode
  pub defs : Held
  pub queues : QueueStates
  pub desk : Desk
  pub ends : ChannelEnds
  pub moment : ℕ
  pub incarnation : ℕ
  pub idents : ℕ
  pub log : LogState
  pub body : Buffered

abbrev pub channels_of : ChannelEnds → Channels
channels_of e = record { senders = e.senders; receivers = e.receivers; seizures = e.seizures; batches = e.batches; bound = e.bound.bound }

-- What is frozen while a stopped write waits for its restart, as a plain manager: without rows, numbers, time and log, which may change.
abbrev pub frozen_of : PartsValue → Plain
frozen_of x = record {
  given = record { number = x.number; name = x.name; log_max = 0 };
  running = Up;
  definitions = x.defs.definitions;
  queues = [];
  connections = x.desk.live;
  channels = channels_of x.ends;
  moment = 0;
  numbers = record { incarnation = 0; idents = 0; connections = 0 };
  log = record { length = 0; armed = 0 };
}

-- what is noted of a stopped write, where this is frozen
abbrev pub noted_part : Part → Option Noted
noted_part part = note_of part part.forced

abbrev pub noted_commit : Bool → Option Connection → Option Noted
noted_commit ends None = None
noted_commit ends (Some c) = noted_part (ended_part ends c)

abbrev pub noted_batch : List ℕ → ℕ → Option Batch → Plain → Option Noted
noted_batch channel last None frozen = None
noted_batch channel last (Some b) frozen = noted_part (batch_part channel last b frozen)

abbrev pub noted : Plain → Option StoppedWrite → Option Noted
noted frozen None = None
noted frozen (Some (writes.Put queue message)) = noted_part (now_part queue message)
noted frozen (Some (writes.Commit number ends)) = noted_commit ends (connection_at number frozen.connections)
noted frozen (Some (writes.Removal queue removes idents why)) = noted_part (gone_part queue removes idents why)
noted frozen (Some (writes.Objects planned)) = noted_part (object_part planned frozen.definitions)
noted frozen (Some (writes.Hardened channel note)) = noted_part (harden_part channel note frozen)
noted frozen (Some (writes.Settled channel unit commit operator rows)) = noted_part (settled_part channel unit commit operator rows frozen)
noted frozen (Some (writes.Prepared channel last)) = noted_batch channel last (batch_of channel frozen.channels.batches) frozen
noted frozen (Some (writes.Moved from target bare to message)) = noted_part (move_part from target bare (record { queue = to; message = message; dead = None }))
noted frozen (Some (writes.Received channel unit last landed)) = noted_part (received_part channel unit last (all_landed landed) frozen)

abbrev pub running_of : Plain → Mode → Running
running_of frozen modes.Up = Up
running_of frozen (modes.Down write starts read) = Down (noted frozen write) starts

-- The log's length, where its bodies are so long: a restart that read it and was refused leaves what it was at the stop.
abbrev pub read_length : Option ReadLog → ℕ → ℕ
read_length None long = long
read_length (Some r) long = r.length

abbrev pub length_of : Mode → ℕ → ℕ
length_of modes.Up long = long
length_of (modes.Down write starts read) long = read_length read long

-- the plain manager
abbrev pub plain_of : PartsValue → Plain
plain_of x = record {
  given = record { number = x.number; name = x.name; log_max = x.log.max };
  running = running_of (frozen_of x) x.mode;
  definitions = x.defs.definitions;
  queues = queues_of x.queues.states;
  connections = x.desk.live;
  channels = channels_of x.ends;
  moment = x.moment;
  numbers = record { incarnation = x.incarnation; idents = x.idents; connections = x.desk.last };
  log = record { length = length_of x.mode (log_length x.log.bodies); armed = x.log.armed };
}
