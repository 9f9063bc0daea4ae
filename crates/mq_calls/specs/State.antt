-- The state of a plain manager.
use Rattle.std.specs.Prelude.{ℕ, ℤ, Bool, false, List, [], Option, None}
use Rattle.mq_calls.specs.Terms.{Ident, Message, Place as RowPlace, Holder, Row, Definitions, PathStep, Did, SenderData, ReceiverData, ObjectChange, LogRecord}
pub use Rattle.mq_calls.specs.declared.state.Item.{Item}
pub use Rattle.mq_calls.specs.declared.state.Handle.{Handle}
pub use Rattle.mq_calls.specs.declared.state.Connection.{Connection}
pub use Rattle.mq_calls.specs.declared.state.Seizure.{Seizure}
pub use Rattle.mq_calls.specs.declared.state.Batch.{Batch}
pub use Rattle.mq_calls.specs.declared.state.SenderSide.{SenderSide}
pub use Rattle.mq_calls.specs.declared.state.ReceiverSide.{ReceiverSide}

-- what the scenario gives the manager, and no event changes
pub record Given : Type 0 where
  pub number : ℕ
  pub name : List ℕ
  pub log_max : ℕ

-- a local queue: its rows by place, how many were placed so far; triggers due, the moment of the last one since the
-- start, and whether it counts as NOTRIGGER
pub record Queue : Type 0 where
  pub name : List ℕ
  pub rows : List Row
  pub arrivals : ℕ
  pub due : ℕ
  pub last_due : Option ℕ
  pub switched_off : Bool

-- the hardened data of channel ends; what their running ends have here: queues, batches, and which receivers are bound;
-- each list in order of the channels' names, one entry a channel
pub record Channels : Type 0 where
  pub senders : List SenderSide
  pub receivers : List ReceiverSide
  pub seizures : List Seizure
  pub batches : List Batch
  pub bound : List (List ℕ)

-- the incarnation, and the last numbers given to idents and connections in it
pub record Numbers : Type 0 where
  pub incarnation : ℕ
  pub idents : ℕ
  pub connections : ℕ

-- the log's length, and the device calls left before an armed cut, 0 for none
pub record LogState : Type 0 where
  pub length : ℕ
  pub armed : ℕ

-- which rows: those of some idents on one queue, those that somebody holds, those of all units, those that a stop loses
pub data Which : Type 0 where
  Among : (queue : List ℕ) → (idents : List Ident) → Which
  HeldBy : (holder : Holder) → Which
  HeldByUnits : Which
  Nonpersistent : Which

-- all that is ever done to a manager, piece by piece
pub data Change : Type 0 where
  -- a message takes the last place of its lane; the trigger's condition is tried for it
  Place : (queue : List ℕ) → (message : Message) → Change
  Try : (queue : List ℕ) → (priority : ℤ) → Change
  -- rows go; rows are held; rows are free again at their places, and count a backout or not
  Leave : (which : Which) → Change
  Hold : (which : Which) → (by : Holder) → Change
  Release : (which : Which) → (counted : Bool) → Change
  -- connections, handles, units
  Connect : (connection : Connection) → Change
  Disconnect : (number : ℕ) → Change
  OpenHandle : (number : ℕ) → (handle : Handle) → Change
  CloseHandle : (number : ℕ) → (handle : ℕ) → Change
  SetCursor : (number : ℕ) → (handle : ℕ) → (place : RowPlace) → Change
  Pend : (number : ℕ) → (item : Item) → Change
  EndUnit : (number : ℕ) → Change
  MakeStale : (step : PathStep) → Change
  -- the next ident is given
  CountIdent : Change
  -- definitions; a queue that begins anew, or goes; a queue that counts as TRIGGER again; a trigger due that is served or dropped
  ChangeObjects : (change : ObjectChange) → Change
  Renew : (queue : List ℕ) → Change
  DropQueue : (queue : List ℕ) → Change
  SwitchOn : (queue : List ℕ) → Change
  Serve : (queue : List ℕ) → Change
  -- channel ends
  SetSender : (channel : List ℕ) → (d : SenderData) → Change
  SetReceiver : (channel : List ℕ) → (d : ReceiverData) → Change
  -- (a message came back for good: no unit in doubt has its ident any more)
  Undoubt : (ident : Ident) → Change
  Seize : (seizure : Seizure) → Change
  Unseize : (channel : List ℕ) → Change
  AddBatch : (batch : Batch) → Change
  DropBatch : (channel : List ℕ) → Change
  SetBound : (channel : List ℕ) → (bound : Bool) → Change
  -- the moment; all that a stop takes beside rows
  SetMoment : (moment : ℕ) → Change
  ForgetAll : Change

-- a forced write that was stopped: its record, and what is done where a restart finds it
pub record Noted : Type 0 where
  pub written : LogRecord
  pub changes : List Change
  pub delta : List Did

-- up; or down, with the noted write, if any, and the number of Started writes that were stopped since
pub data Running : Type 0 where
  Up : Running
  Down : (note : Option Noted) → (starts : ℕ) → Running

pub record Plain : Type 0 where
  pub given : Given
  pub running : Running
  pub definitions : Definitions
  pub queues : List Queue
  pub connections : List Connection
  pub channels : Channels
  pub moment : ℕ
  pub numbers : Numbers
  pub log : LogState

-- a queue that was just defined
abbrev pub fresh_queue : List ℕ → Queue
fresh_queue name = record { name = name; rows = []; arrivals = 0; due = 0; last_due = None; switched_off = false }
