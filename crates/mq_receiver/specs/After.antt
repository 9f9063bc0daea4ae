-- A receiver's state after a turn.
use Rattle.std.specs.Prelude.{ℕ, ◌==◌, List, [], ◌∷◌, ◌++◌, Some, None, if◌then◌else◌}
use Rattle.mq_frame.specs.from_message.{Dest, Message}
use Rattle.mq_frame.specs.declared.frame.FrameKind.{FrameKind}
use Rattle.mq_frame.specs.declared.frame.FrameKind.TheVariants.{Bind, Msg, End}
use Rattle.mq_frame.specs.declared.frame.Seen.{Seen}
use Rattle.mq_frame.specs.declared.frame.Seen.TheVariants as items
use Rattle.mq_sync.specs.declared.unit.Unit.{Unit as Luw}
use Rattle.mq_receiver.specs.declared.state.Owed.TheVariants.{Status, Ack, Err}
use Rattle.mq_receiver.specs.declared.state.ReceiverState.TheVariants.{Inactive, Bound}
use Rattle.mq_receiver.specs.declared.state.Receiver.{Receiver}
use Rattle.mq_receiver.specs.declared.turns.ReceiverDoes.{ReceiverDoes}
use Rattle.mq_receiver.specs.declared.turns.ReceiverDoes.TheVariants as does
use Rattle.mq_receiver.specs.declared.turns.ReceiverOut.{ReceiverOut}
use Rattle.mq_receiver.specs.declared.turns.ReceiverOut.TheVariants.{Done, Full, Refused}

-- the last number that BIND leaves: its own, where its force flag is set
abbrev pub number_bound : ℕ → FrameKind → ℕ
number_bound last (Bind number force) = if force then number else last
number_bound last _ = last

-- BIND is hardened, and STATUS owed
abbrev pub bound_to : ℕ → ℕ → Receiver → Receiver
bound_to session last r = record { state = Bound 0 0; owes = Some (Status session r.unit last); session = session; unit = r.unit; last = last }

abbrev pub bound_by : Seen → Receiver → Receiver
bound_by (items.Frame f) r = bound_to f.session (number_bound r.last f.kind) r
bound_by _ r = r

abbrev pub kept_kind : FrameKind → Receiver → Receiver
kept_kind (Msg n index number dest message) r = record r { state = Bound n index }
kept_kind _ r = r

-- The messages that a receiver keeps: message 1 begins a unit, the next ones come behind it.
abbrev pub kept_messages : {A : Type 0} → (made : Dest → Message → A) → FrameKind → List A → List A
kept_messages made (Msg n index number dest message) kept = if index == 1 then made dest message ∷ [] else kept ++ made dest message ∷ []
kept_messages made _ kept = kept

-- a message is kept
abbrev pub kept_by : Seen → Receiver → Receiver
kept_by (items.Frame f) r = kept_kind f.kind r
kept_by _ r = r

abbrev pub kind_last : ℕ → FrameKind → ℕ
kind_last last (End n count number) = number
kind_last last _ = last

abbrev pub last_by : Seen → ℕ → ℕ
last_by (items.Frame f) last = kind_last last f.kind
last_by _ last = last

-- the unit is committed with END's last number, and ACK owed
abbrev pub received : Luw → Seen → Receiver → Receiver
received unit seen r = record r { owes = Some (Ack unit); unit = unit; last = last_by seen r.last }

-- what was to be done is done
abbrev pub done_after : Receiver → ReceiverDoes → Seen → Receiver
done_after r does.Still seen = r
done_after r does.Ignore seen = r
done_after r does.PushOwed seen = record r { owes = None }
done_after r does.Bind seen = bound_by seen r
done_after r does.Keep seen = kept_by seen r
done_after r (does.Place unit) seen = received unit seen r
done_after r does.Again seen = record r { owes = Some (Ack r.unit) }
done_after r does.Close seen = record r { state = Inactive }

-- the batch is refused: its session is hardened as closed, and ERR owed
abbrev pub refused_after : Receiver → ReceiverDoes → ℕ → Receiver
refused_after r (does.Place unit) reason = record r { state = Inactive; owes = Some (Err unit reason) }
refused_after r _ reason = r

-- A refused push changes nothing.
abbrev pub receiver_after : Receiver → ReceiverDoes → Seen → ReceiverOut → Receiver
receiver_after r d seen Done = done_after r d seen
receiver_after r d seen Full = r
receiver_after r d seen (Refused reason) = refused_after r d reason
