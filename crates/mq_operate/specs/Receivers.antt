-- What commands on a receiver's end come to at its manager and at its place.
use Rattle.std.specs.Prelude.{ℕ, Bool, true, false, List, [], ◌∷◌, ◌++◌, Option, if◌then◌else◌}
use Rattle.mq_calls.specs.declared.agents.Note.TheVariants as notes
use Rattle.mq_calls.specs.declared.choices.Choice.{Choice}
use Rattle.mq_calls.specs.declared.choices.Choice.TheVariants.{Runs, NoMemory, Stopped}
use Rattle.mq_history.specs.declared.acts.OpRefusal.TheVariants as reasons
use Rattle.mq_receiver.specs.States as receivers
use Rattle.mq_receiver.specs.declared.state.Receiver.{Receiver}
use Rattle.mq_spec_node.specs.Terms.{Limits, Message, OpRefusal, Part, Plain, harden, receiver_data, receiver_or, refusal, set_bound, when}
use Rattle.mq_spec_node.specs.Words.{ReceiverEnd, is_bad_number, is_open, parts_of}
use Rattle.mq_operate.specs.declared.places.Seat.{Seat}

-- the end with another machine, with what was kept or without
abbrev pub kept_if : Bool → List Message → List Message
kept_if true kept = []
kept_if false kept = kept

abbrev pub behind : ReceiverEnd → Receiver → Bool → ReceiverEnd
behind e machine empties = record e { machine = machine; kept = kept_if empties e.kept }

-- what STOP closes, by the channel's name
abbrev pub close_named : List ℕ → Plain → List Part
close_named channel p =
    if is_open (receiver_data channel p)
    then parts_of (harden channel (notes.Closed (receiver_or (receiver_data channel p)).session) p) ++ parts_of (set_bound channel false p)
    else parts_of (set_bound channel false p)

-- it isn't bound any more, where all before was done
abbrev pub unbound_if : Choice → List ℕ → Plain → List Part
unbound_if Runs channel p = parts_of (set_bound channel false p)
unbound_if NoMemory channel p = []
unbound_if (Stopped by n left) channel p = []

-- the first refusal of RESET of a receiver
abbrev pub seat_unset : Seat → ℕ → Limits → Option OpRefusal
seat_unset seat number limits = refusal (
    when (receivers.is_bound seat.machine.state) reasons.Running
    ∷ when (is_bad_number number limits) reasons.BadNumber
    ∷ [])
