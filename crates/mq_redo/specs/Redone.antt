-- What a stopped write did to what lasts, thing by thing, as the restart that finds its record tells it.
use Rattle.std.specs.Prelude.{ℕ, Bool, true, false, List, [], ◌∷◌, Option, None, Some, ◌&&◌, ◌++◌}
use Rattle.mq_calls.specs.declared.deltas.Did.{Did}
use Rattle.mq_calls.specs.declared.deltas.Did.TheVariants as did
use Rattle.mq_calls.specs.declared.deltas.Why.{Why}
use Rattle.mq_calls.specs.declared.deltas.Why.TheVariants as whys
use Rattle.mq_calls.specs.declared.state.Item.{Item}
use Rattle.mq_calls.specs.declared.state.Item.TheVariants.{Put, Take}
use Rattle.std.specs.List.{list_any}
use Rattle.mq_calls.specs.declared.records.Add.{Add}
use Rattle.mq_calls.specs.declared.records.Remove.{Remove}
use Rattle.mq_message.specs.declared.message.Ident.{Ident}
use Rattle.mq_message.specs.declared.message.Message.{Message}
use Rattle.mq_queue.specs.Rows.{same_ident}
use Rattle.mq_calls.specs.State.{Noted, Plain, Running}
use Rattle.mq_calls.specs.State.Running.{Up, Down}
use Rattle.mq_calls.specs.Reads.{is_persistent, stands}
use Rattle.mq_calls.specs.Steps.{Part, note_of}
use Rattle.mq_spec_manager.specs.Stops.{redone_delta}
use Rattle.mq_spec_manager.specs.Agents.{settle_did}
use Rattle.mq_core.specs.declared.parts.Arrival.{Arrival}

-- the note of the write that was stopped, if any was
abbrev pub noted_in : Running → Option Noted
noted_in Up = None
noted_in (Down noted starts) = noted

-- what is told where its record is found
abbrev pub redone_of : Plain → List Did
redone_of p = redone_delta true (noted_in p.running) p

-- so of a part whose write was stopped
abbrev pub redone_part : Part → Plain → List Did
redone_part part p = redone_delta true (note_of part part.forced) p

-- one thing, or nothing
abbrev pub only_if : Bool → Did → List Did
only_if true d = d ∷ []
only_if false d = []

-- a row that goes is told where it stands, and so one of a unit in doubt that is settled
abbrev pub removed_of : List ℕ → Why → Plain → Ident → List Did
removed_of queue why p ident = only_if (stands ident p) (did.Removed queue ident why)

abbrev pub settled_of : Bool → Plain → Remove → List Did
settled_of commit p r = only_if (stands r.ident p) (settle_did commit r)

-- of a unit first the rows that it got, then the puts that last
abbrev pub taken_of : Plain → Item → List Did
taken_of p (Put queue message) = []
taken_of p (Take queue ident persistent) = removed_of queue whys.Got p ident

abbrev pub placed_of : Item → List Did
placed_of (Put queue message) = only_if (is_persistent message) (did.Placed queue message.ident None)
placed_of (Take queue ident persistent) = []

-- an ident is among those that a record adds
abbrev pub is_in : Ident → List Add → Bool
is_in ident adds = list_any (λ (a : Add). same_ident ident a.message.ident) adds

-- Messages that a channel brought: first the row of a unit in doubt that went for it, then the message where it lasts.
abbrev pub adds_ident : Ident → Arrival → Bool
adds_ident ident a = is_persistent a.message && same_ident ident a.message.ident

abbrev pub dropped_of : Option (List ℕ) → Message → Plain → List Did
dropped_of None m p = []
dropped_of (Some queue) m p = removed_of queue whys.CameBack p m.ident

abbrev pub arrived_of : List Add → Plain → Arrival → List Did
arrived_of adds p a = dropped_of a.dropped a.message p ++ only_if (is_in a.message.ident adds) (did.Placed a.queue a.message.ident a.dead)
