-- The states of a receiver, and what an operator and a stop of the manager make of them.
use Rattle.std.specs.Prelude.{ℕ, Bool, true, false, Option, Some, None}
use Rattle.mq_frame.specs.declared.frame.Frame.{Frame}
use Rattle.mq_frame.specs.declared.frame.FrameKind.TheVariants as kinds
use Rattle.mq_sync.specs.declared.unit.Unit.{Unit as Luw}
use Rattle.mq_sync.specs.declared.data.ReceiverData.{ReceiverData}
use Rattle.mq_sync.specs.Units.{unit_named, no_unit}
use Rattle.mq_receiver.specs.declared.state.Owed.{Owed}
use Rattle.mq_receiver.specs.declared.state.Owed.TheVariants.{Status, Ack, Err}
use Rattle.mq_receiver.specs.declared.state.ReceiverState.{ReceiverState}
use Rattle.mq_receiver.specs.declared.state.ReceiverState.TheVariants.{Inactive, Stopped, Bound}
use Rattle.mq_receiver.specs.declared.state.Receiver.{Receiver}

-- a receiver of what is hardened, when its manager has started; nothing was hardened where there is none
abbrev pub receiver_of : Option ReceiverData → Receiver
receiver_of None = record { state = Inactive; owes = None; session = 0; unit = no_unit; last = 0 }
receiver_of (Some d) = record { state = Inactive; owes = None; session = d.session; unit = d.unit; last = d.last }

-- START
abbrev pub started : Receiver → Receiver
started r = record r { state = Inactive }

-- STOP, once the session is hardened as closed; a frame that is owed is still pushed
abbrev pub stopped : Receiver → Receiver
stopped r = record r { state = Stopped }

-- the manager stops
abbrev pub halted : Receiver → Receiver
halted r = record r { state = Inactive; owes = None }

-- RESET
abbrev pub numbered : ℕ → Receiver → Receiver
numbered last r = record r { last = last }

abbrev pub is_bound : ReceiverState → Bool
is_bound (Bound latest came) = true
is_bound _ = false

abbrev pub is_stopped : ReceiverState → Bool
is_stopped Stopped = true
is_stopped _ = false

abbrev pub latest_begun : ReceiverState → ℕ
latest_begun (Bound latest came) = latest
latest_begun _ = 0

abbrev pub messages_came : ReceiverState → ℕ
messages_came (Bound latest came) = came
messages_came _ = 0

-- the unit that was begun last in the kept session; number 0 where none is
abbrev pub unit_begun : Receiver → Luw
unit_begun r = unit_named r.session (latest_begun r.state)

-- the frame that is owed
abbrev pub owed_frame : ℕ → Owed → Frame
owed_frame stamp (Status session unit last) = record { stamp = stamp; session = session; kind = kinds.Status unit.session unit.n last }
owed_frame stamp (Ack unit) = record { stamp = stamp; session = unit.session; kind = kinds.Ack unit.n }
owed_frame stamp (Err unit reason) = record { stamp = stamp; session = unit.session; kind = kinds.Err unit.n reason }
