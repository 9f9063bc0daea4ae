-- The commit of a receiver: a batch of messages is placed.
use Rattle.std.specs.Prelude.{ℕ, Bool, true, false, List, [], ◌∷◌, ◌++◌, if◌then◌else◌, Some, Result, Ok, Err}
use Rattle.mq_sc_apply.specs.from_calls.Words.{Reason, Message, receiver_or, Luw, apply_all, receiver_data, is_persistent, is_full, need, Plain, Change, Step, Part, when, tested, Refuse, Do}
use Rattle.mq_sc_apply.specs.from_calls.{Add, Did, LogRecord}
use Rattle.mq_sc_apply.specs.from_codes.ReasonVariants as reasons
use Rattle.mq_sc_apply.specs.from_calls.DidVariants as did
use Rattle.mq_sc_apply.specs.from_calls.LogRecordVariants as records
use Rattle.mq_sc_apply.specs.from_calls.State.Change.{SetReceiver}
use Rattle.mq_spec_manager.specs.Words.{placed}
use Rattle.mq_spec_manager.specs.Landing.{Landing, land}
use Rattle.mq_spec_manager.specs.Standing.{Standing, standing_at, is_present, drop_changes, drop_did}

-- The messages in order, each tried with the ones before it placed: the changes, the rows of the record, the delta, and
-- which messages were taken as they came.
pub record Landed : Type 0 where
  pub changes : List Change
  pub adds : List Add
  pub delta : List Did
  pub taken : List Message

abbrev pub nothing_landed : Landed
nothing_landed = record { changes = []; adds = []; delta = []; taken = [] }

abbrev pub add_of : Landing → List Add
add_of l = if is_persistent l.message then record { queue = l.queue; message = l.message } ∷ [] else []

abbrev pub land_changes : Landing → Standing → List Change
land_changes l s = drop_changes l.message s ++ placed l.queue l.message

-- one message lands before the rest of its batch
abbrev pub before : Message → Landing → Standing → Result Landed Reason → Result Landed Reason
before m l s (Err reason) = Err reason
before m l s (Ok rest) = Ok (record {
  changes = land_changes l s ++ rest.changes;
  adds = add_of l ++ rest.adds;
  delta = drop_did l.message s ++ did.Placed l.queue l.message.ident l.dead ∷ rest.delta;
  taken = m ∷ rest.taken;
})

abbrev pub landed_by : Result Landing Reason → Message → Standing → Plain → (rest : Plain → Result Landed Reason) → Result Landed Reason
landed_by (Err reason) m s p rest = Err reason
landed_by (Ok l) m s p rest = before m l s (rest (apply_all (land_changes l s) p))

abbrev pub landed_unless : (present : Bool) → List ℕ → Message → Standing → Plain → (rest : Plain → Result Landed Reason) → Result Landed Reason
landed_unless true channel m s p rest = rest p
landed_unless false channel m s p rest = landed_by (land channel m p) m s p rest

abbrev pub landed : List ℕ → List Message → Plain → Result Landed Reason
landed channel [] p = Ok nothing_landed
landed channel (m ∷ ms) p = landed_unless (is_present (standing_at m p)) channel m (standing_at m p) p (λ q. landed channel ms q)

abbrev pub taken_of : Result Landed Reason → List Message
taken_of (Err reason) = []
taken_of (Ok l) = l.taken

-- the messages of a batch that a receiver's commit places
abbrev pub messages_taken : List ℕ → List Message → Plain → List Message
messages_taken channel batch p = taken_of (landed channel batch p)

-- the commit of a receiver: its record, or the refusal of the first message that can't land, or 2102
abbrev pub received_record : List ℕ → Luw → ℕ → Landed → LogRecord
received_record channel unit last l = records.Received channel unit last l.adds

abbrev pub received_part : List ℕ → Luw → ℕ → Landed → Plain → Part
received_part channel unit last l p = record {
  forced = Some (received_record channel unit last l);
  changes = l.changes ++ SetReceiver channel (record (receiver_or (receiver_data channel p)) { unit = unit; last = last }) ∷ [];
  delta = l.delta ++ did.Received channel unit ∷ [];
}

abbrev pub receive_landed : List ℕ → Luw → ℕ → Result Landed Reason → Plain → Step Reason (Unit {0})
receive_landed channel unit last (Err reason) p = Refuse reason
receive_landed channel unit last (Ok l) p = tested (
    when (is_full (need (received_record channel unit last l)) p) reasons.ResourceProblem
    ∷ [])
    (Do tt (received_part channel unit last l p ∷ []))

abbrev pub receive : List ℕ → Luw → ℕ → List Message → Plain → Step Reason (Unit {0})
receive channel unit last batch p = receive_landed channel unit last (landed channel batch p) p
